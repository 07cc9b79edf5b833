pub mod Maps
pub mod Taking
pub mod UnderWay

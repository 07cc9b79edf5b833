pub mod Backs
pub mod Goes
pub mod Lives

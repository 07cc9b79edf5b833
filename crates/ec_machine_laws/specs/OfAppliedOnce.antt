pub mod Once
pub mod Safe
pub mod SafeServers

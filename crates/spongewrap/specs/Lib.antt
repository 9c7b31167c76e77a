pub mod SpongeWrap
pub mod Kinds
pub mod Refusals
pub mod Sessions
pub mod History
pub mod Desk

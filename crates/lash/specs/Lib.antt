pub mod BayCalled
pub mod Told
pub mod RolledIn

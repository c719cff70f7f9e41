pub mod Devices
pub mod Tables
pub mod Texts

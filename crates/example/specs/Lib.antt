-- A monitor's answer to a trap, and what it leaves of the guest.
pub mod Seen
pub mod Way
pub mod Refusal
pub mod Gone
pub mod Answered
pub mod AsFound

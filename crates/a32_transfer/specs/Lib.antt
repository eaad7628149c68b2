-- What an A32 load or store moves between a mode's registers and the device. Beyond the papers, by the Arm manual and requests C-17 and
-- C-18 of document 02.
pub mod Shape
pub mod Landing
pub mod Giving

-- What the chip's registers say. Beyond the papers, by the Arm manual; the features as docs/FITTER.md has them.
pub mod Feature
pub mod Ran

-- Why an abort came, by its fault code (01, 'Layout of the word', the fault codes; source 001, IFSC and DFSC), and what can be passed on to
-- the guest. Beyond the papers, by the Arm manual.
pub mod Kind
pub mod Answer
pub mod Pass
pub mod Table

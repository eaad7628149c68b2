-- `syndrome::whole::whole` meets its contract: each arm has the mask of the bits that hold none of its kind's values.
-- Assumes nothing.
use Rattle.syndrome.proofs.Made.{whole_exactly}
use Rattle.syndrome.proofs.whole.whole.Goals as goal

pub returns-in-Plain : goal.returns-in-Plain
returns-in-Plain c =
    let at = c in
    whole_exactly at.args.word at.ranges.word.fits at.requires c.in-Plain.is

pub returns-in-Wfx : goal.returns-in-Wfx
returns-in-Wfx c =
    let at = c in
    whole_exactly at.args.word at.ranges.word.fits at.requires c.in-Wfx.is

pub returns-in-Mcr : goal.returns-in-Mcr
returns-in-Mcr c =
    let at = c in
    whole_exactly at.args.word at.ranges.word.fits at.requires c.in-Mcr.is

pub returns-in-Mcrr : goal.returns-in-Mcrr
returns-in-Mcrr c =
    let at = c in
    whole_exactly at.args.word at.ranges.word.fits at.requires c.in-Mcrr.is

pub returns-in-Ldc : goal.returns-in-Ldc
returns-in-Ldc c =
    let at = c in
    whole_exactly at.args.word at.ranges.word.fits at.requires c.in-Ldc.is

pub returns-in-Simd : goal.returns-in-Simd
returns-in-Simd c =
    let at = c in
    whole_exactly at.args.word at.ranges.word.fits at.requires c.in-Simd.is

pub returns-in-Call : goal.returns-in-Call
returns-in-Call c =
    let at = c in
    whole_exactly at.args.word at.ranges.word.fits at.requires c.in-Call.is

pub returns-in-Smc : goal.returns-in-Smc
returns-in-Smc c =
    let at = c in
    whole_exactly at.args.word at.ranges.word.fits at.requires c.in-Smc.is

pub returns-in-InstructionAbort : goal.returns-in-InstructionAbort
returns-in-InstructionAbort c =
    let at = c in
    whole_exactly at.args.word at.ranges.word.fits at.requires c.in-InstructionAbort.is

pub returns-in-DataAbort : goal.returns-in-DataAbort
returns-in-DataAbort c =
    let at = c in
    whole_exactly at.args.word at.ranges.word.fits at.requires c.in-DataAbort.is

pub returns-in-Debug : goal.returns-in-Debug
returns-in-Debug c =
    let at = c in
    whole_exactly at.args.word at.ranges.word.fits at.requires c.in-Debug.is

pub returns-in-Step : goal.returns-in-Step
returns-in-Step c =
    let at = c in
    whole_exactly at.args.word at.ranges.word.fits at.requires c.in-Step.is

pub returns-in-Watchpoint : goal.returns-in-Watchpoint
returns-in-Watchpoint c =
    let at = c in
    whole_exactly at.args.word at.ranges.word.fits at.requires c.in-Watchpoint.is

pub returns-in-SError : goal.returns-in-SError
returns-in-SError c =
    let at = c in
    whole_exactly at.args.word at.ranges.word.fits at.requires c.in-SError.is

pub returns-in-System : goal.returns-in-System
returns-in-System c =
    let at = c in
    whole_exactly at.args.word at.ranges.word.fits at.requires c.in-System.is

-- `time::Time::since` meets its contract: the laws of Orders.antt on a difference with and without a borrow.
-- Assumes nothing.
use Rattle.std.proofs.Common.{◌-◌}
use Rattle.time.specs.Time.{time_of}
use Rattle.time.proofs.Laws.{time_from_lem}
use Rattle.time.proofs.Orders.{no_borrow_le, one_left, no_borrow, borrowed}
use Rattle.time.proofs.Time.since.Goals as goal

pub overflow_sub-result : goal.overflow_sub-result
overflow_sub-result c =
    let a = c.args in
    no_borrow_le a.self.seconds a.self.fraction a.other.seconds a.other.fraction c.wrapping_sub_u64-fraction.result c.requires c.struct_known-1.given.1.0.fits c.struct_known-2-1.given.1.0.fits c.wrapping_sub_u64-fraction.type_inv c.wrapping_sub_u64-fraction.ensures.value

pub overflow_sub-result-then-self-other : goal.overflow_sub-result-then-self-other
overflow_sub-result-then-self-other c =
    let a = c.args in
    one_left a.self.seconds a.self.fraction a.other.seconds a.other.fraction c.wrapping_sub_u64-fraction.result c.requires c.struct_known-1.given.1.0.fits c.struct_known-2-1.given.1.0.fits c.wrapping_sub_u64-fraction.type_inv c.wrapping_sub_u64-fraction.ensures.value c.if-self-other.true

pub returns-then-self-other : goal.returns-then-self-other
returns-then-self-other c =
    let a = c.args in
    time_from_lem (time_of a.self - time_of a.other) (a.self.seconds - a.other.seconds - 1) c.wrapping_sub_u64-fraction.result (borrowed a.self.seconds a.self.fraction a.other.seconds a.other.fraction c.wrapping_sub_u64-fraction.result c.requires c.struct_known-1.given.1.0.fits c.struct_known-2-1.given.1.0.fits c.wrapping_sub_u64-fraction.type_inv c.wrapping_sub_u64-fraction.ensures.value c.if-self-other.true) c.wrapping_sub_u64-fraction.type_inv

pub overflow_sub-result-2 : goal.overflow_sub-result-2
overflow_sub-result-2 c =
    let a = c.args in
    no_borrow_le a.self.seconds a.self.fraction a.other.seconds a.other.fraction c.wrapping_sub_u64-fraction.result c.requires c.struct_known-1.given.1.0.fits c.struct_known-2-1.given.1.0.fits c.wrapping_sub_u64-fraction.type_inv c.wrapping_sub_u64-fraction.ensures.value

pub returns : goal.returns
returns c =
    let a = c.args in
    time_from_lem (time_of a.self - time_of a.other) (a.self.seconds - a.other.seconds) c.wrapping_sub_u64-fraction.result (no_borrow a.self.seconds a.self.fraction a.other.seconds a.other.fraction c.wrapping_sub_u64-fraction.result c.requires c.struct_known-1.given.1.0.fits c.struct_known-2-1.given.1.0.fits c.wrapping_sub_u64-fraction.type_inv c.wrapping_sub_u64-fraction.ensures.value c.if-self-other.false) c.wrapping_sub_u64-fraction.type_inv

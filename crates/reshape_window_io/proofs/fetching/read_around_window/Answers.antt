use Rattle.std.proofs.Common.{inl, inr, ◌+◌, ◌/◌, length, Option, sym, ap, subst, arith}
use Rattle.std.specs.Prelude.{MatchOption, IfSome, ⊤}
use Rattle.stripe_region_read.specs.raid_types_the_Shape.{Shape}
use Rattle.stripe_region_read.specs.raid_types_the_Span.{Span}
use Rattle.reshape_window_steps.specs.stripe_row_Rows.{present}
use Rattle.reshape_window_steps.specs.history_Stands.{covers}
use Rattle.reshape_window_steps.specs.reshape_window_rows_Copies.{HasWindow, IsRoomFor}
use Rattle.stripe_region_read.specs.Stretches.{IsShapeOf, ListStandsIn, RowsStandIn}
use Rattle.stripe_region_read.proofs.StretchReads.{list-among, rows-among}
use Rattle.reshape_window_io.specs.Fetching.{IsShapeBeside, IsUnreadBeside}
use Rattle.reshape_window_io.proofs.Beside.{unread-beside, shape-beside}
use Rattle.reshape_window_io.proofs.fetching.read_around_window.Goals as goal

pub returns-in-None-clause-refused : goal.returns-in-None-clause-refused
returns-in-None-clause-refused g c =
    let to = c.args.first + length c.args.into.now / 512 in
    unread-beside c.args.hidden c.args.relied c.args.first to c.args.first to c.read_list.new.members (omega arith) (omega arith) (λ x low high. ap (λ (h : Option Span). covers h x) c.in-None.is)
    c.read_list.result.refusal c.read_list.ensures.refused

pub returns-in-None-clause-holds : goal.returns-in-None-clause-holds
returns-in-None-clause-holds g c = λ ok told list stands buffered fills i lt.
    let within = c.requires.within in
    let m = c.args.members.now in
    let now = present (g.B.Bank.given c.args.bank.now) (g.B.Bank.tape c.args.bank.now) in
    let to = c.args.first + length c.args.into.now / 512 in
    let asked : Shape → Type 0 = λ s. IsShapeOf m.newest c.args.first to s in
    let beside : Shape → Type 0 = λ s. IsShapeBeside c.args.hidden m.newest c.args.first to s in
    let wider : (s : Shape) → IsShapeOf m.newest c.args.first to s → IsShapeBeside c.args.hidden m.newest c.args.first to s =
    shape-beside c.args.hidden m.newest c.args.first to c.args.first to (omega arith) (omega arith) (λ x low high. ap (λ (h : Option Span). covers h x) c.in-None.is) in
    c.read_list.ensures.holds ok told c.args.hidden list (list-among asked beside wider c.args.hidden m now list stands)
    (elim fills [ inl all ↦ inl all | inr rows ↦ inr (rows-among asked beside wider c.args.hidden m now list c.args.relied rows) ]) i lt
    (record { within = omega (arith, within, lt); outside = ap (λ (h : Option Span). covers h (c.args.first + i)) c.in-None.is })

pub read_around_open-requires-clause-buffer : goal.read_around_open-requires-clause-buffer
read_around_open-requires-clause-buffer g c = subst (λ (h : Option Span). IfSome h (λ span. IsRoomFor span c.args.buffer.now)) c.in-Some.is c.requires.buffer

pub returns-in-Some-clause-refused : goal.returns-in-Some-clause-refused
returns-in-Some-clause-refused g c =
    subst (λ (h : Option Span). MatchOption c.read_around_open.result.refusal ⊤ (IsUnreadBeside h c.args.relied c.args.first (c.args.first + length c.args.into.now / 512) c.read_around_open.new.members)) (sym c.in-Some.is) c.read_around_open.ensures.refused

pub returns-in-Some-clause-holds : goal.returns-in-Some-clause-holds
returns-in-Some-clause-holds g c = λ ok told list stands buffered fills i lt.
    let now = present (g.B.Bank.given c.args.bank.now) (g.B.Bank.tape c.args.bank.now) in
    let m = c.args.members.now in
    let to = c.args.first + length c.args.into.now / 512 in
    c.read_around_open.ensures.holds ok told list (subst (λ (h : Option Span). ListStandsIn (IsShapeBeside h m.newest c.args.first to) h m now list) c.in-Some.is stands)
    (subst (λ (h : Option Span). IfSome h (λ span. HasWindow span c.args.buffer.now list)) c.in-Some.is buffered)
    (elim fills [ inl all ↦ inl all | inr rows ↦ inr (subst (λ (h : Option Span). RowsStandIn (IsShapeBeside h m.newest c.args.first to) h c.args.relied m now list) c.in-Some.is rows) ]) i lt

pub returns-in-None-clause-keeps : goal.returns-in-None-clause-keeps
returns-in-None-clause-keeps g c = c.read_list.ensures.keeps

pub returns-in-Some-clause-keeps : goal.returns-in-Some-clause-keeps
returns-in-Some-clause-keeps g c = c.read_around_open.ensures.keeps

pub read_list-requires-clause-stands : goal.read_list-requires-clause-stands
read_list-requires-clause-stands g c = c.requires.stands

pub read_around_open-requires-clause-stands : goal.read_around_open-requires-clause-stands
read_around_open-requires-clause-stands g c = c.requires.stands

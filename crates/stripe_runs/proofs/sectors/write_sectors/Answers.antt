use Rattle.std.proofs.Common.{◌≡◌, ◌+◌, ◌-◌, ◌*◌, ◌/◌, ◌∷◌, ℕ, true, List, Result, Ok, Err, length, take, drop, refl, ap, ◌∙◌, arith}
use Rattle.std.specs.Prelude.{IsOk, OnOk}
use Rattle.raid_layout.specs.raid_types_Sectors.{Sector}
use Rattle.stripe_row.specs.bank_Tape.{disk}
use Rattle.stripe_row.specs.raid_parity_Rows.{sector_of}
use Rattle.stripe_runs.specs.Writing.{IsSlotSector}
use Rattle.stripe_runs.proofs.GainLaws.{call_marks, call_written}
use Rattle.stripe_runs.proofs.PartLaws.{part-length, sector-part_of}
use Rattle.stripe_runs.proofs.sectors.write_sectors.Goals as goal

-- what holds where the call is Ok
ok_then : {T E : Type 0} {Q : Type 0} (r : Result T E) → (IsOk r → Q) → OnOk r Q
ok_then (Ok x) f = f refl
ok_then (Err e) f = tt

pub write-requires : goal.write-requires
write-requires g c =
    let here = c.requires.place in
    let long = part-length c.args.buffer.now c.args.first c.args.count c.requires.room in
    record { known = here.known; some = omega (arith, here.some, long); whole = omega (arith, long); within = omega (arith, here.within, long) }

pub returns-clause-each_mark : goal.returns-clause-each_mark
returns-clause-each_mark g c =
    let buffer = c.args.buffer.now in
    let first = c.args.first in
    let count = c.args.count in
    let part : List ℕ = take (512 * (first + count) - 512 * first) (drop (512 * first) buffer) in
    let long : length part / 512 ≡ count = (let l = part-length buffer first count c.requires.room in omega (arith, l)) in
    call_marks (g.B.Bank.given c.args.bank.now).start (IsSlotSector c.args.slot c.args.at 0 count (λ j. true) (λ j. sector_of buffer (first + j))) c.args.slot c.args.at (length part / 512) part
    (g.B.Bank.tape c.args.bank.now) (g.B.Bank.tape c.write.new.self)
    (λ i lt. record { j = i; low = omega arith; high = omega (arith, lt, long); is_written = refl; here = refl; place = refl; value = sector-part_of buffer first count i (omega (arith, lt, long)) })
    c.write.ensures.did.some

pub returns-clause-written : goal.returns-clause-written
returns-clause-written g c =
    let buffer = c.args.buffer.now in
    let first = c.args.first in
    let count = c.args.count in
    let start = (g.B.Bank.given c.args.bank.now).start in
    let old = g.B.Bank.tape c.args.bank.now in
    let tape = g.B.Bank.tape c.write.new.self in
    let part : List ℕ = take (512 * (first + count) - 512 * first) (drop (512 * first) buffer) in
    let long : length part / 512 ≡ count = (let l = part-length buffer first count c.requires.room in omega (arith, l)) in
    ok_then c.write.result (λ ok told j lt.
    call_written start old tape c.args.slot c.args.at (length part / 512) j part (c.write.ensures.did.all told ok) (omega (arith, lt, long))
    ∙ ap (λ (v : Sector). v ∷ disk start old c.args.slot (c.args.at + j)) (sector-part_of buffer first count j lt))

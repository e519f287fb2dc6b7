use Rattle.std.proofs.Common.{◌≡◌, ◌<◌, ◌≤◌, ℕ, [], ◌∷◌, length, refl, sym, ◌∙◌, subst, arith, le_trans}
use Rattle.std.specs.Prelude.{Contains, None, Some}
use Rattle.std.specs.List.{find}
use mathlib.Core.List.{not-mem-nil}
use Rattle.stripe_delayed_store.specs.raid_types_the_Shape.{Shape}
use Rattle.stripe_delayed_store.specs.bank_Given.{Given}
use Rattle.stripe_delayed_store.specs.sb_specs_Reading.{shape_of}
use Rattle.stripe_delayed_store.specs.stripe_row_Rows.{reading_of, present}
use Rattle.stripe_delayed_store.specs.stripe_row_Writes.{OthersStand}
use Rattle.stripe_delayed_store.specs.raid_parity_Rows.{sector_of}
use Rattle.stripe_delayed_store.specs.stripe_list_Writing.{AreDataOf}
use Rattle.stripe_delayed_store.specs.array_members_Placed.{IsPlaced}
use Rattle.stripe_delayed_store.specs.array_members_Moving.{IsMoved}
use Rattle.stripe_delayed_store.specs.array_members_Rebuilding.{AreSparesFree}
use Rattle.stripe_delayed_store.specs.history_Sound.{OpensFit}
use Rattle.stripe_delayed_store.proofs.array_members_MovedLaws.{moved-then, moved-same, grows-none, grows-then, moved-from}
use Rattle.stripe_delayed_store.proofs.array_members_LackingLaws.{since-same, since-then, in-either}
use Rattle.stripe_delayed_store.proofs.array_members_LackingLists.{none-of}
use Rattle.stripe_delayed_store.proofs.crash_safety_laws_Risen.{risen-none, risen-then, room-first, room-then}
use Rattle.stripe_delayed_store.proofs.array_members_SafeStretch.{gone-before, safe-none, safe-then, allowed-later, zeros-later, region-later, grows-longer, over-at, keeps-from}
use Rattle.stripe_delayed_rows.specs.stripe_cache_Rows.{Rows, is_meant}
use Rattle.stripe_delayed_rows.specs.stripe_cache_Apart.{IsCache}
use Rattle.stripe_delayed_rows.proofs.stripe_cache_Laws.{IsCache-without}
use Rattle.stripe_delayed_rows.specs.Overlay.{Sides, AreRowsOfSides, taken}
use Rattle.stripe_delayed_rows.proofs.RowLaws.{taken-held}
use Rattle.stripe_delayed_rows.proofs.OverlayLaws.{sides-stay}
use Rattle.stripe_write_back.specs.WrittenOut.{IsWrittenOut, IsRowWrittenOut, AreRowsStanding, one_side}
use Rattle.stripe_write_back.proofs.WrittenOutLaws.{taken-out, one-out, then-out, none-written, never-none, fewer, same-rows, stand-on}
use Rattle.stripe_write_back.proofs.writing_out.write_out.Goals as goal

pub loop-row-init : goal.loop-row-init
loop-row-init g c =
    let m = c.args.members.now in
    let given = g.B.Bank.given c.args.bank.now in
    let tape0 = g.B.Bank.tape c.args.bank.now in
    record {
      moved = moved-same given given m m refl refl c.requires.placed c.requires.unlost;
      failed = since-same m (g.B.Bank.faults_of c.args.bank.now) (g.B.Bank.faults_of c.args.bank.now);
      grows = grows-none (λ told. refl);
      cache = c.requires.cache;
      rows = c.requires.rows;
      out = λ told. none-written (one_side c.args.side c.args.shape.now) m (present given tape0) c.args.cache.now;
      standing = c.requires.standing;
      clean = refl;
      rise = risen-none m tape0 tape0 (λ told. omega arith);
      safe = λ told world ledger room gone unclean dirty region stored list right stands allowed zeros safe. safe-none (OpensFit world) world.scope given ledger m tape0 safe;
      given = refl;
      counts = λ s. omega arith;
    }

pub write_out_row-one-requires-clause-slots : goal.write_out_row-one-requires-clause-slots
write_out_row-one-requires-clause-slots g c =
    subst (λ (b : Given). b.slots ≤ 32) (sym c.loop-row.invariant.given) c.requires.slots

pub write_out_row-one-requires-clause-placed : goal.write_out_row-one-requires-clause-placed
write_out_row-one-requires-clause-placed g c =
    subst (λ (b : Given). IsPlaced b c.loop-row.members) (sym c.loop-row.invariant.given) c.loop-row.invariant.moved.placed

pub write_out_row-one-requires-clause-unlost : goal.write_out_row-one-requires-clause-unlost
write_out_row-one-requires-clause-unlost g c =
    c.loop-row.invariant.moved.unlost

pub write_out_row-one-requires-clause-free : goal.write_out_row-one-requires-clause-free
write_out_row-one-requires-clause-free g c =
    subst (λ (b : Given). AreSparesFree b c.loop-row.members) (sym c.loop-row.invariant.given) (c.loop-row.invariant.moved.free c.requires.free)

pub write_out_row-one-requires-clause-shape : goal.write_out_row-one-requires-clause-shape
write_out_row-one-requires-clause-shape g c =
    c.requires.shape ∙ sym c.loop-row.invariant.moved.shape

pub write_out_row-one-requires-clause-row : goal.write_out_row-one-requires-clause-row
write_out_row-one-requires-clause-row g c =
    let sides : Sides = one_side c.args.side c.args.shape.now in
    let found : find (is_meant c.args.which) c.loop-row.cache.held ≡ Some c.in-Some.row = sym c.in-Some.ensures.row in
    let of : AreRowsOfSides (one_side c.args.side c.args.shape.now) c.loop-row.members.newest.size c.loop-row.cache = subst (λ (k : ℕ). AreRowsOfSides (one_side c.args.side c.args.shape.now) k c.loop-row.cache) (sym c.loop-row.invariant.moved.size) c.loop-row.invariant.rows in
    let shape : c.args.shape.now ≡ shape_of c.loop-row.members.newest = c.requires.shape ∙ sym c.loop-row.invariant.moved.shape in
    (of c.in-Some.row (taken-held (is_meant c.args.which) c.loop-row.cache c.in-Some.row c.loop-row.invariant.cache found).0).below

pub write_out_row-one-requires-clause-size : goal.write_out_row-one-requires-clause-size
write_out_row-one-requires-clause-size g c =
    let sides : Sides = one_side c.args.side c.args.shape.now in
    let found : find (is_meant c.args.which) c.loop-row.cache.held ≡ Some c.in-Some.row = sym c.in-Some.ensures.row in
    let of : AreRowsOfSides (one_side c.args.side c.args.shape.now) c.loop-row.members.newest.size c.loop-row.cache = subst (λ (k : ℕ). AreRowsOfSides (one_side c.args.side c.args.shape.now) k c.loop-row.cache) (sym c.loop-row.invariant.moved.size) c.loop-row.invariant.rows in
    let shape : c.args.shape.now ≡ shape_of c.loop-row.members.newest = c.requires.shape ∙ sym c.loop-row.invariant.moved.shape in
    (of c.in-Some.row (taken-held (is_meant c.args.which) c.loop-row.cache c.in-Some.row c.loop-row.invariant.cache found).0).whole

pub write_out_row-one-requires-clause-others : goal.write_out_row-one-requires-clause-others
write_out_row-one-requires-clause-others g c =
    let sides : Sides = one_side c.args.side c.args.shape.now in
    let found : find (is_meant c.args.which) c.loop-row.cache.held ≡ Some c.in-Some.row = sym c.in-Some.ensures.row in
    let of : AreRowsOfSides (one_side c.args.side c.args.shape.now) c.loop-row.members.newest.size c.loop-row.cache = subst (λ (k : ℕ). AreRowsOfSides (one_side c.args.side c.args.shape.now) k c.loop-row.cache) (sym c.loop-row.invariant.moved.size) c.loop-row.invariant.rows in
    let shape : c.args.shape.now ≡ shape_of c.loop-row.members.newest = c.requires.shape ∙ sym c.loop-row.invariant.moved.shape in
    let was = c.loop-row.invariant in
    let n = c.loop-row.members in
    λ told bytes are.
    let given = g.B.Bank.given c.args.bank.now in
    let tape1 = g.B.Bank.tape c.loop-row.bank in
    subst (λ (b : Given). OthersStand (present b tape1) (reading_of n) c.args.shape.now c.in-Some.row.row bytes c.in-Some.row.changed) (sym was.given)
    (subst (λ (t : Shape). OthersStand (present given tape1) (reading_of n) t c.in-Some.row.row bytes c.in-Some.row.changed) (sym shape)
    ((was.standing told c.in-Some.row (taken-held (is_meant c.args.which) c.loop-row.cache c.in-Some.row was.cache found).0).1 bytes are))

pub loop-row-preserved : goal.loop-row-preserved
loop-row-preserved g c =
    let was = c.loop-row.invariant in
    let did = c.write_out_row-one.ensures in
    let given = g.B.Bank.given c.args.bank.now in
    let given1 = g.B.Bank.given c.loop-row.bank in
    let tape0 = g.B.Bank.tape c.args.bank.now in
    let tape1 = g.B.Bank.tape c.loop-row.bank in
    let tape2 = g.B.Bank.tape c.write_out_row-one.new.bank in
    let m = c.args.members.now in
    let n = c.loop-row.members in
    let new = c.write_out_row-one.new.members in
    let moved : IsMoved given n new = moved-from given given1 n n new was.given refl did.moved in
    let sides : Sides = one_side c.args.side c.args.shape.now in
    let found : find (is_meant c.args.which) c.loop-row.cache.held ≡ Some c.in-Some.row = sym c.in-Some.ensures.row in
    let of : AreRowsOfSides (one_side c.args.side c.args.shape.now) c.loop-row.members.newest.size c.loop-row.cache = subst (λ (k : ℕ). AreRowsOfSides (one_side c.args.side c.args.shape.now) k c.loop-row.cache) (sym c.loop-row.invariant.moved.size) c.loop-row.invariant.rows in
    let shape : c.args.shape.now ≡ shape_of c.loop-row.members.newest = c.requires.shape ∙ sym c.loop-row.invariant.moved.shape in
    record {
      moved = moved-then given m n new was.moved moved;
      failed = since-then m n new c.loop-row.spares c.write_out_row-one.result.spares _ (g.B.Bank.faults_of c.args.bank.now) (g.B.Bank.faults_of c.loop-row.bank)
          (g.B.Bank.faults_of c.write_out_row-one.new.bank) was.counts did.counts was.failed did.failed (in-either c.loop-row.spares c.write_out_row-one.result.spares);
      grows = grows-then was.grows did.grows;
      cache = subst (λ (r : Rows). IsCache r) (sym c.in-Some.ensures.rows) (IsCache-without (is_meant c.args.which) c.loop-row.cache was.cache);
      rows = subst (λ (r : Rows). AreRowsOfSides (one_side c.args.side c.args.shape.now) c.args.members.now.newest.size r) (sym c.in-Some.ensures.rows)
          ((sides-stay (one_side c.args.side c.args.shape.now) c.args.members.now.newest.size c.loop-row.cache was.cache was.rows).2 (is_meant c.args.which));
      out = λ told.
          let row : IsRowWrittenOut (shape_of c.loop-row.members.newest) c.in-Some.row new (present given tape1) (present given tape2) =
          subst (λ (t : Shape). IsRowWrittenOut t c.in-Some.row new (present given tape1) (present given tape2)) shape
          (subst (λ (b : Given). IsRowWrittenOut c.args.shape.now c.in-Some.row new (present b tape1) (present b tape2)) was.given
          (did.out (none-of c.write_out_row-one.result.refusal (sym c.is_some.ensures ∙ c.if-is_some.false)) told)) in
          subst (λ (r : Rows). IsWrittenOut (one_side c.args.side c.args.shape.now) m new (present given tape0) (present given tape2) c.args.cache.now r) (sym c.in-Some.ensures.rows)
          (then-out given sides m n new (present given tape0) (present given tape1) (present given tape2) c.args.cache.now c.loop-row.cache (taken (is_meant c.args.which) c.loop-row.cache) was.moved moved (was.out told)
          (one-out given sides n new (present given tape1) (present given tape2) (is_meant c.args.which) c.loop-row.cache c.in-Some.row was.moved.placed moved was.cache of found shape row));
      standing = λ told. subst (λ (r : Rows). AreRowsStanding new (present given tape2) c.args.side r) (sym c.in-Some.ensures.rows)
          (stand-on given n new (present given tape1) (present given tape2) c.args.side (is_meant c.args.which) c.loop-row.cache c.in-Some.row moved was.cache found (subst (λ (b : Given). IsRowWrittenOut c.args.shape.now c.in-Some.row new (present b tape1) (present b tape2)) was.given
          (did.out (none-of c.write_out_row-one.result.refusal (sym c.is_some.ensures ∙ c.if-is_some.false)) told)).others (was.standing told));
      clean = did.clean ∙ was.clean;
      rise = risen-then was.rise did.rise;
      safe = λ told world ledger room gone unclean dirty region stored list right stands allowed zeros safe.
          let one = was.safe told world ledger (room-first m tape0 tape1 tape2 room (grows-longer did.grows told)) (gone-before given n new was.moved.placed moved ledger gone) unclean dirty region stored list right stands allowed zeros safe in
          let s = (was.out told).out stored list right stands in
          safe-then (OpensFit world) world.scope given ledger n new tape0 tape1 tape2 one
          (keeps-from world given given1 ledger new tape1 tape2 was.given
          (did.safe told world ledger (room-then tape2 told room was.rise) gone unclean (was.clean ∙ dirty)
          (region-later given m n c.args.shape.now (Contains (c.in-Some.row.row ∷ [])) was.moved (region c.in-Some.row.row)) list
          (λ bytes are. subst (λ (t : Shape). AreDataOf t list c.in-Some.row.row (sector_of bytes)) (sym shape)
          (taken-out given sides n (present given tape1) (is_meant c.args.which) c.loop-row.cache c.in-Some.row bytes s.0 list was.moved.placed was.cache of found shape are s.1.delayed s.1.stands).own)
          (allowed-later given m n was.moved ledger.values list allowed) (λ fit. zeros-later given m n was.moved list (zeros fit)) (over-at world given given1 ledger n tape1 was.given one.next)));
      given = did.given ∙ was.given;
      counts = λ s. le_trans (was.counts s) (did.counts s);
    }

pub returns-then-is_some-clause-moved : goal.returns-then-is_some-clause-moved
returns-then-is_some-clause-moved g c =
    let was = c.loop-row.invariant in
    let did = c.write_out_row-one.ensures in
    let given = g.B.Bank.given c.args.bank.now in
    let given1 = g.B.Bank.given c.loop-row.bank in
    let tape0 = g.B.Bank.tape c.args.bank.now in
    let tape1 = g.B.Bank.tape c.loop-row.bank in
    let tape2 = g.B.Bank.tape c.write_out_row-one.new.bank in
    let m = c.args.members.now in
    let n = c.loop-row.members in
    let new = c.write_out_row-one.new.members in
    let moved : IsMoved given n new = moved-from given given1 n n new was.given refl did.moved in
    moved-then given m n new was.moved moved

pub returns-then-is_some-clause-failed : goal.returns-then-is_some-clause-failed
returns-then-is_some-clause-failed g c =
    let was = c.loop-row.invariant in
    let did = c.write_out_row-one.ensures in
    let given = g.B.Bank.given c.args.bank.now in
    let given1 = g.B.Bank.given c.loop-row.bank in
    let tape0 = g.B.Bank.tape c.args.bank.now in
    let tape1 = g.B.Bank.tape c.loop-row.bank in
    let tape2 = g.B.Bank.tape c.write_out_row-one.new.bank in
    let m = c.args.members.now in
    let n = c.loop-row.members in
    let new = c.write_out_row-one.new.members in
    let moved : IsMoved given n new = moved-from given given1 n n new was.given refl did.moved in
    since-then m n new c.loop-row.spares c.write_out_row-one.result.spares _ (g.B.Bank.faults_of c.args.bank.now) (g.B.Bank.faults_of c.loop-row.bank)
    (g.B.Bank.faults_of c.write_out_row-one.new.bank) was.counts did.counts was.failed did.failed (in-either c.loop-row.spares c.write_out_row-one.result.spares)

pub returns-then-is_some-clause-grows : goal.returns-then-is_some-clause-grows
returns-then-is_some-clause-grows g c =
    let was = c.loop-row.invariant in
    let did = c.write_out_row-one.ensures in
    let given = g.B.Bank.given c.args.bank.now in
    let given1 = g.B.Bank.given c.loop-row.bank in
    let tape0 = g.B.Bank.tape c.args.bank.now in
    let tape1 = g.B.Bank.tape c.loop-row.bank in
    let tape2 = g.B.Bank.tape c.write_out_row-one.new.bank in
    let m = c.args.members.now in
    let n = c.loop-row.members in
    let new = c.write_out_row-one.new.members in
    let moved : IsMoved given n new = moved-from given given1 n n new was.given refl did.moved in
    grows-then was.grows did.grows

pub returns-then-is_some-clause-cache : goal.returns-then-is_some-clause-cache
returns-then-is_some-clause-cache g c =
    let was = c.loop-row.invariant in
    let did = c.write_out_row-one.ensures in
    let given = g.B.Bank.given c.args.bank.now in
    let given1 = g.B.Bank.given c.loop-row.bank in
    let tape0 = g.B.Bank.tape c.args.bank.now in
    let tape1 = g.B.Bank.tape c.loop-row.bank in
    let tape2 = g.B.Bank.tape c.write_out_row-one.new.bank in
    let m = c.args.members.now in
    let n = c.loop-row.members in
    let new = c.write_out_row-one.new.members in
    let moved : IsMoved given n new = moved-from given given1 n n new was.given refl did.moved in
    subst (λ (r : Rows). IsCache r) (sym c.in-Some.ensures.rows) (IsCache-without (is_meant c.args.which) c.loop-row.cache was.cache)

pub returns-then-is_some-clause-rows : goal.returns-then-is_some-clause-rows
returns-then-is_some-clause-rows g c =
    let was = c.loop-row.invariant in
    let did = c.write_out_row-one.ensures in
    let given = g.B.Bank.given c.args.bank.now in
    let given1 = g.B.Bank.given c.loop-row.bank in
    let tape0 = g.B.Bank.tape c.args.bank.now in
    let tape1 = g.B.Bank.tape c.loop-row.bank in
    let tape2 = g.B.Bank.tape c.write_out_row-one.new.bank in
    let m = c.args.members.now in
    let n = c.loop-row.members in
    let new = c.write_out_row-one.new.members in
    let moved : IsMoved given n new = moved-from given given1 n n new was.given refl did.moved in
    subst (λ (r : Rows). AreRowsOfSides (one_side c.args.side c.args.shape.now) c.args.members.now.newest.size r) (sym c.in-Some.ensures.rows)
    ((sides-stay (one_side c.args.side c.args.shape.now) c.args.members.now.newest.size c.loop-row.cache was.cache was.rows).2 (is_meant c.args.which))

pub returns-then-is_some-clause-out : goal.returns-then-is_some-clause-out
returns-then-is_some-clause-out g c =
    λ none told. never-none c.write_out_row-one.result.refusal (sym c.is_some.ensures ∙ c.if-is_some.true) none

pub returns-then-is_some-clause-standing : goal.returns-then-is_some-clause-standing
returns-then-is_some-clause-standing g c =
    λ none told. never-none c.write_out_row-one.result.refusal (sym c.is_some.ensures ∙ c.if-is_some.true) none

pub returns-then-is_some-clause-clean : goal.returns-then-is_some-clause-clean
returns-then-is_some-clause-clean g c =
    let was = c.loop-row.invariant in
    let did = c.write_out_row-one.ensures in
    let given = g.B.Bank.given c.args.bank.now in
    let given1 = g.B.Bank.given c.loop-row.bank in
    let tape0 = g.B.Bank.tape c.args.bank.now in
    let tape1 = g.B.Bank.tape c.loop-row.bank in
    let tape2 = g.B.Bank.tape c.write_out_row-one.new.bank in
    let m = c.args.members.now in
    let n = c.loop-row.members in
    let new = c.write_out_row-one.new.members in
    let moved : IsMoved given n new = moved-from given given1 n n new was.given refl did.moved in
    did.clean ∙ was.clean

pub returns-then-is_some-clause-rise : goal.returns-then-is_some-clause-rise
returns-then-is_some-clause-rise g c =
    let was = c.loop-row.invariant in
    let did = c.write_out_row-one.ensures in
    let given = g.B.Bank.given c.args.bank.now in
    let given1 = g.B.Bank.given c.loop-row.bank in
    let tape0 = g.B.Bank.tape c.args.bank.now in
    let tape1 = g.B.Bank.tape c.loop-row.bank in
    let tape2 = g.B.Bank.tape c.write_out_row-one.new.bank in
    let m = c.args.members.now in
    let n = c.loop-row.members in
    let new = c.write_out_row-one.new.members in
    let moved : IsMoved given n new = moved-from given given1 n n new was.given refl did.moved in
    risen-then was.rise did.rise

pub returns-then-is_some-clause-safe : goal.returns-then-is_some-clause-safe
returns-then-is_some-clause-safe g c =
    let was = c.loop-row.invariant in
    let did = c.write_out_row-one.ensures in
    let given = g.B.Bank.given c.args.bank.now in
    let given1 = g.B.Bank.given c.loop-row.bank in
    let tape0 = g.B.Bank.tape c.args.bank.now in
    let tape1 = g.B.Bank.tape c.loop-row.bank in
    let tape2 = g.B.Bank.tape c.write_out_row-one.new.bank in
    let m = c.args.members.now in
    let n = c.loop-row.members in
    let new = c.write_out_row-one.new.members in
    let moved : IsMoved given n new = moved-from given given1 n n new was.given refl did.moved in
    let sides : Sides = one_side c.args.side c.args.shape.now in
    let found : find (is_meant c.args.which) c.loop-row.cache.held ≡ Some c.in-Some.row = sym c.in-Some.ensures.row in
    let of : AreRowsOfSides (one_side c.args.side c.args.shape.now) c.loop-row.members.newest.size c.loop-row.cache = subst (λ (k : ℕ). AreRowsOfSides (one_side c.args.side c.args.shape.now) k c.loop-row.cache) (sym c.loop-row.invariant.moved.size) c.loop-row.invariant.rows in
    let shape : c.args.shape.now ≡ shape_of c.loop-row.members.newest = c.requires.shape ∙ sym c.loop-row.invariant.moved.shape in
    λ told world ledger room gone unclean dirty region stored list right stands allowed zeros safe.
    let one = was.safe told world ledger (room-first m tape0 tape1 tape2 room (grows-longer did.grows told)) (gone-before given n new was.moved.placed moved ledger gone) unclean dirty region stored list right stands allowed zeros safe in
    let s = (was.out told).out stored list right stands in
    safe-then (OpensFit world) world.scope given ledger n new tape0 tape1 tape2 one
    (keeps-from world given given1 ledger new tape1 tape2 was.given
    (did.safe told world ledger (room-then tape2 told room was.rise) gone unclean (was.clean ∙ dirty)
    (region-later given m n c.args.shape.now (Contains (c.in-Some.row.row ∷ [])) was.moved (region c.in-Some.row.row)) list
    (λ bytes are. subst (λ (t : Shape). AreDataOf t list c.in-Some.row.row (sector_of bytes)) (sym shape)
    (taken-out given sides n (present given tape1) (is_meant c.args.which) c.loop-row.cache c.in-Some.row bytes s.0 list was.moved.placed was.cache of found shape are s.1.delayed s.1.stands).own)
    (allowed-later given m n was.moved ledger.values list allowed) (λ fit. zeros-later given m n was.moved list (zeros fit)) (over-at world given given1 ledger n tape1 was.given one.next)))

pub returns-then-is_some-clause-given : goal.returns-then-is_some-clause-given
returns-then-is_some-clause-given g c =
    let was = c.loop-row.invariant in
    let did = c.write_out_row-one.ensures in
    let given = g.B.Bank.given c.args.bank.now in
    let given1 = g.B.Bank.given c.loop-row.bank in
    let tape0 = g.B.Bank.tape c.args.bank.now in
    let tape1 = g.B.Bank.tape c.loop-row.bank in
    let tape2 = g.B.Bank.tape c.write_out_row-one.new.bank in
    let m = c.args.members.now in
    let n = c.loop-row.members in
    let new = c.write_out_row-one.new.members in
    let moved : IsMoved given n new = moved-from given given1 n n new was.given refl did.moved in
    did.given ∙ was.given

pub returns-then-is_some-clause-counts : goal.returns-then-is_some-clause-counts
returns-then-is_some-clause-counts g c =
    let was = c.loop-row.invariant in
    let did = c.write_out_row-one.ensures in
    let given = g.B.Bank.given c.args.bank.now in
    let given1 = g.B.Bank.given c.loop-row.bank in
    let tape0 = g.B.Bank.tape c.args.bank.now in
    let tape1 = g.B.Bank.tape c.loop-row.bank in
    let tape2 = g.B.Bank.tape c.write_out_row-one.new.bank in
    let m = c.args.members.now in
    let n = c.loop-row.members in
    let new = c.write_out_row-one.new.members in
    let moved : IsMoved given n new = moved-from given given1 n n new was.given refl did.moved in
    λ s. le_trans (was.counts s) (did.counts s)

pub returns-then-is_some-clause-none : goal.returns-then-is_some-clause-none
returns-then-is_some-clause-none g c =
    λ none. never-none c.write_out_row-one.result.refusal (sym c.is_some.ensures ∙ c.if-is_some.true) none

pub returns-then-is_some-clause-refused : goal.returns-then-is_some-clause-refused
returns-then-is_some-clause-refused g c =
    c.write_out_row-one.ensures.refused

pub loop-row-smaller : goal.loop-row-smaller
loop-row-smaller g c =
    subst (λ (r : Rows). length r.held < length c.loop-row.cache.held) (sym c.in-Some.ensures.rows) (fewer (is_meant c.args.which) c.loop-row.cache.held c.in-Some.row (sym c.in-Some.ensures.row))

pub is_some-requires : goal.is_some-requires
is_some-requires g c κs a has = absurd (not-mem-nil has)

pub returns-clause-moved : goal.returns-clause-moved
returns-clause-moved g c =
    c.loop-row.invariant.moved

pub returns-clause-failed : goal.returns-clause-failed
returns-clause-failed g c =
    c.loop-row.invariant.failed

pub returns-clause-grows : goal.returns-clause-grows
returns-clause-grows g c =
    c.loop-row.invariant.grows

pub returns-clause-clean : goal.returns-clause-clean
returns-clause-clean g c =
    c.loop-row.invariant.clean

pub returns-clause-rise : goal.returns-clause-rise
returns-clause-rise g c =
    c.loop-row.invariant.rise

pub returns-clause-safe : goal.returns-clause-safe
returns-clause-safe g c =
    c.loop-row.invariant.safe

pub returns-clause-given : goal.returns-clause-given
returns-clause-given g c =
    c.loop-row.invariant.given

pub returns-clause-counts : goal.returns-clause-counts
returns-clause-counts g c =
    c.loop-row.invariant.counts

pub returns-clause-none : goal.returns-clause-none
returns-clause-none g c =
    let none : find (is_meant c.args.which) c.loop-row.cache.held ≡ None = sym c.in_default.ensures.row in
    let same : c.take.new.self ≡ c.loop-row.cache = same-rows (is_meant c.args.which) c.loop-row.cache c.take.new.self none c.take.ensures.rows in
    λ done. subst (λ (r : Rows). find (is_meant c.args.which) r.held ≡ None) (sym same) none

pub returns-clause-cache : goal.returns-clause-cache
returns-clause-cache g c =
    let none : find (is_meant c.args.which) c.loop-row.cache.held ≡ None = sym c.in_default.ensures.row in
    let same : c.take.new.self ≡ c.loop-row.cache = same-rows (is_meant c.args.which) c.loop-row.cache c.take.new.self none c.take.ensures.rows in
    subst (λ (r : Rows). IsCache r) (sym same) c.loop-row.invariant.cache

pub returns-clause-rows : goal.returns-clause-rows
returns-clause-rows g c =
    let none : find (is_meant c.args.which) c.loop-row.cache.held ≡ None = sym c.in_default.ensures.row in
    let same : c.take.new.self ≡ c.loop-row.cache = same-rows (is_meant c.args.which) c.loop-row.cache c.take.new.self none c.take.ensures.rows in
    subst (λ (r : Rows). AreRowsOfSides (one_side c.args.side c.args.shape.now) c.args.members.now.newest.size r) (sym same) c.loop-row.invariant.rows

pub returns-clause-out : goal.returns-clause-out
returns-clause-out g c =
    let none : find (is_meant c.args.which) c.loop-row.cache.held ≡ None = sym c.in_default.ensures.row in
    let same : c.take.new.self ≡ c.loop-row.cache = same-rows (is_meant c.args.which) c.loop-row.cache c.take.new.self none c.take.ensures.rows in
    λ done told. subst (λ (r : Rows). IsWrittenOut (one_side c.args.side c.args.shape.now) c.args.members.now c.loop-row.members (present (g.B.Bank.given c.args.bank.now) (g.B.Bank.tape c.args.bank.now)) (present (g.B.Bank.given c.args.bank.now) (g.B.Bank.tape c.loop-row.bank)) c.args.cache.now r) (sym same) (c.loop-row.invariant.out told)

pub returns-clause-standing : goal.returns-clause-standing
returns-clause-standing g c =
    let none : find (is_meant c.args.which) c.loop-row.cache.held ≡ None = sym c.in_default.ensures.row in
    let same : c.take.new.self ≡ c.loop-row.cache = same-rows (is_meant c.args.which) c.loop-row.cache c.take.new.self none c.take.ensures.rows in
    λ done told. subst (λ (r : Rows). AreRowsStanding c.loop-row.members (present (g.B.Bank.given c.args.bank.now) (g.B.Bank.tape c.loop-row.bank)) c.args.side r) (sym same) (c.loop-row.invariant.standing told)

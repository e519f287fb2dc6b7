use Rattle.std.proofs.Common.{◌≡◌, inl, inr, ℕ, ◌+◌, ◌-◌, ◌*◌, ◌/◌, ◌<◌, ◌++◌, false, length, sym, ◌∙◌, ap, subst, arith, le_trans}
use Rattle.std.proofs.lemmas.Bool.{cases_lt}
use Rattle.std.proofs.lemmas.Bool.Decides.{nat_tests}
use Rattle.std.specs.Prelude.{OnOk, Result, Ok, Err}
use Rattle.std.specs.Result.{is_err}
use Rattle.sb_safe_updates.specs.raid_parity_Rows.{sector_of}
use Rattle.sb_safe_updates.specs.stripe_row_Rows.{reading_of, present}
use Rattle.sb_safe_updates.specs.stripe_list_the_Unavailable.{Unavailable}
use Rattle.sb_safe_updates.specs.stripe_list_Calls.{IsAsked, IsListed}
use Rattle.sb_safe_updates.proofs.stripe_list_LossLaws.{lost_then, rows_by}
use Rattle.sb_safe_updates.proofs.stripe_list_ListLaws.{asked_more, followed, present_same}
use Rattle.sb_safe_updates.specs.array_members_Lacking.{IsAskedBeyond}
use Rattle.sb_safe_updates.specs.raid_types_Shapes.{data_disks}
use Rattle.sb_safe_updates.proofs.array_members_Fit.{has-rows, force-valid, short}
use Rattle.sb_safe_updates.proofs.array_members_Stripes.{row-beyond}
use Rattle.stripe_io.proofs.ReadParts.{sector-front, sector-back, listed-mended, listed-beyond}
use Rattle.stripe_io.proofs.CallLaws.{no-ok, answered}
use Rattle.stripe_io.proofs.fetching.read_parts.Goals as goal

pub read_list-read-requires-clause-rows : goal.read_list-read-requires-clause-rows
read_list-read-requires-clause-rows g c = has-rows (g.B.Bank.given c.args.bank.now) c.args.members.now c.requires.placed c.args.shape.now c.requires.shape

pub read_list-rest-requires-clause-rows : goal.read_list-rest-requires-clause-rows
read_list-rest-requires-clause-rows g c =
    rows_by c.args.members.now c.read_list-read.result.lost c.read_list-read.ensures.given c.read_list-read.ensures.lost.members
    (has-rows (g.B.Bank.given c.args.bank.now) c.args.members.now c.requires.placed c.args.shape.now c.requires.shape)

pub returns-clause-lost : goal.returns-clause-lost
returns-clause-lost g c = lost_then c.read_list-read.ensures.lost c.read_list-rest.ensures.lost

pub returns-clause-answer : goal.returns-clause-answer
returns-clause-answer g c =
    let shape = c.args.shape.now in
    let cut = c.split_at_mut-below.ensures in
    let size = c.min-split.ensures in
    let reach = c.saturating_sub-reach.ensures in
    let all = c.list_length.ensures in
    asked_more shape false (reading_of c.read_list-rest.new.members) (IsAsked shape (c.args.first + c.min-split.result) (length c.split_at_mut-below.result.1.now / 512))
    (IsAskedBeyond shape c.args.mended c.args.first (length c.args.into.now / 512)) c.read_list-rest.result.answer
    (λ role asked. (
      asked.0,
      omega (arith, asked.1),
      grind (arith, nat_tests, asked.2, cut.back_len, size),
      asked.3,
      row-beyond shape (force-valid c.args.members.now.newest c.requires.placed.fit shape c.requires.shape) asked.0 c.args.mended c.requires.stripes
          (grind (arith, nat_tests, asked.1, asked.2, cut.back_len, size, reach, all)),
    )) c.read_list-rest.ensures.answer

-- an answer that is no error
at-done : {T Q : Type 0} (answer : Result T Unavailable) → is_err answer ≡ false → OnOk answer Q → Q
at-done (Ok done) fine held = held
at-done (Err cause) fine held = absurd (cc)

pub returns-clause-sectors : goal.returns-clause-sectors
returns-clause-sectors g c =
    followed c.args.shape.now false (reading_of c.read_list-rest.new.members) _ c.read_list-rest.result.answer (λ few beyond told list i lt stands fills.
    let given = g.B.Bank.given c.args.bank.now in
    let shape = c.args.shape.now in
    let m = c.args.members.now in
    let mid = c.read_list-read.new.members in
    let new = c.read_list-rest.new.members in
    let one = c.read_list-read.ensures in
    let two = c.read_list-rest.ensures in
    let c0 = present given (g.B.Bank.tape c.args.bank.now) in
    let c1 = present (g.B.Bank.given c.read_list-read.new.bank) (g.B.Bank.tape c.read_list-read.new.bank) in
    let cut = c.split_at_mut-below.ensures in
    let size = c.min-split.ensures in
    let reach = c.saturating_sub-reach.ensures in
    let all = c.list_length.ensures in
    let split = c.min-split.result in
    let front = c.read_list-read.new.into in
    let back = c.read_list-rest.new.into in
    let front_len : length front ≡ 512 * split = c.read_list-read.auto.into ∙ cut.front_len in
    let within : c.args.first + i < data_disks shape * m.newest.size = omega (arith, lt, c.requires.within) in
    elim (cases_lt i split) [
      | inl early ↦
          sector-front front back split i front_len early
          ∙ listed-mended given shape m mid new c.read_list-read.result.lost c.read_list-rest.result.lost one.lost.members two.lost.members c.requires.placed c.requires.shape c0 c1
          (present_same one.given (one.tape told)) list (c.args.first + i) stands within (sector_of front i) c.args.mended c.requires.stripes
          (grind (arith, nat_tests, early, size, reach, all)) fills
          (at-done c.read_list-read.result.answer (sym c.is_err.ensures.value ∙ c.if-is_err.false) one.sectors told i (omega (arith, early, cut.front_len)))
      | inr late ↦
          let here : split + (i - split) ≡ i = omega (arith, late) in
          let there : c.args.first + split + (i - split) ≡ c.args.first + i = omega (arith, late) in
          ap (λ (k : ℕ). sector_of (front ++ back) k) (sym here) ∙ sector-back front back split (i - split) front_len
          ∙ listed-beyond given shape m mid new c.read_list-read.result.lost c.read_list-rest.result.lost one.lost.members two.lost.members c.requires.placed c.requires.shape c0 c1
          (present_same one.given (one.tape told)) list (c.args.first + i) stands within (sector_of back (i - split))
          (subst (λ (k : ℕ). IsListed shape false (reading_of mid) (reading_of new) c1 k (sector_of back (i - split))) there (beyond told (i - split) (omega (arith, late, lt, cut.back_len))))
    ]) c.read_list-rest.ensures.answer c.read_list-rest.ensures.sectors

pub list_length-requires-clause-shape : goal.list_length-requires-clause-shape
list_length-requires-clause-shape g c = force-valid c.args.members.now.newest c.requires.placed.fit c.args.shape.now c.requires.shape

pub list_length-requires-clause-size : goal.list_length-requires-clause-size
list_length-requires-clause-size g c = le_trans c.requires.mended (short (g.B.Bank.given c.args.bank.now) c.args.members.now c.requires.placed)

pub returns-then-is_err-clause-lost : goal.returns-then-is_err-clause-lost
returns-then-is_err-clause-lost g c = c.read_list-read.ensures.lost

pub returns-then-is_err-clause-tape : goal.returns-then-is_err-clause-tape
returns-then-is_err-clause-tape g c = c.read_list-read.ensures.tape

pub returns-then-is_err-clause-given : goal.returns-then-is_err-clause-given
returns-then-is_err-clause-given g c = c.read_list-read.ensures.given

pub returns-then-is_err-clause-answer : goal.returns-then-is_err-clause-answer
returns-then-is_err-clause-answer g c =
    answered c.args.shape.now (reading_of c.read_list-read.new.members) (IsAsked c.args.shape.now c.args.first (length c.split_at_mut-below.result.0.now / 512))
    (IsAskedBeyond c.args.shape.now c.args.mended c.args.first (length c.args.into.now / 512)) c.read_list-read.result.answer (sym c.is_err.ensures.value ∙ c.if-is_err.true) c.read_list-read.ensures.answer

pub returns-then-is_err-clause-sectors : goal.returns-then-is_err-clause-sectors
returns-then-is_err-clause-sectors g c = no-ok _ c.read_list-read.result.answer (sym c.is_err.ensures.value ∙ c.if-is_err.true)

pub returns-clause-tape : goal.returns-clause-tape
returns-clause-tape g c told = c.read_list-rest.ensures.tape told ∙ c.read_list-read.ensures.tape told

pub returns-clause-given : goal.returns-clause-given
returns-clause-given g c = c.read_list-rest.ensures.given ∙ c.read_list-read.ensures.given

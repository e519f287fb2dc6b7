-- What runs was made, or found, as it is answered.
use Rattle.std.proofs.Common.{◌≡◌, inl, inr, ℕ, zero, suc, ◌*◌, ◌<◌, ◌≤◌, true, false, not, nat_lt, max, List, [], ◌++◌, length, take, get_or, Option, Some, IfSome, Result, Ok, Err, IfOk, refl, sym, ◌∙◌, ap, ap₂, subst, arith}
use Rattle.std.proofs.lemmas.Bool.Decides.{nat_tests}
use Rattle.array_found_laws.specs.raid_types_the_Role.{Role}
use Rattle.array_found_laws.specs.raid_types_the_Role_TheVariants.{Whole, Recovering, Missing}
use Rattle.array_found_laws.specs.raid_types_the_Shape.{Shape}
use Rattle.array_found_laws.specs.raid_types_Shapes.{has_slot, data_disks}
use Rattle.array_found_laws.proofs.raid_types_Tabulated.{get_or-tabulate}
use Rattle.bank.specs.declared.bank.Operation.{Operation}
use Rattle.bank.specs.Given.{Given, sizes, IsFaulted, NeverFalls}
use Rattle.bank.specs.Tape.{Contents, contents}
use Rattle.array_found_laws.specs.sb_specs_the_Members.{Members}
use Rattle.array_found_laws.specs.sb_specs_Reading.{Reading, shape_of, final_shape, is_whole, role_state}
use Rattle.array_found_laws.specs.sb_specs_Election.{reading_in}
use Rattle.array_found_laws.specs.sb_specs_Reads.{has_spare}
use Rattle.array_found_laws.specs.sb_specs_Found.{AreInSectors}
use Rattle.array_found_laws.proofs.sb_specs_SlotSets.{none_there}
use Rattle.sb_add_spare.specs.stripe_row_Rows.{reading_of, is_missing}
use Rattle.sb_add_spare.specs.history_the_Event.{Event}
use Rattle.sb_add_spare.specs.history_Plain.{entries_of}
use Rattle.sb_add_spare.specs.history_World.{World, opening_list, reading_at}
use Rattle.sb_add_spare.specs.history_Opened.{IsSound, OpensSound}
use Rattle.array_create_assemble.specs.declared.spec.CreateSpec.{CreateSpec}
use Rattle.sb_add_spare.specs.array_members_Parts.{Parts}
use Rattle.sb_add_spare.specs.array_members_Placed.{places_of, AreWhole}
use Rattle.sb_add_spare.specs.crash_safety_laws_Steady.{AreUnlost}
use Rattle.sb_add_spare.specs.crash_views_Regions.{DoWithout}
use Rattle.sb_add_spare.proofs.array_members_Fit.{valid, multiple, short}
use Rattle.sb_add_spare.proofs.array_members_Still.{count-still}
use Rattle.sb_add_spare.specs.array_members_Rebuilding.{AreSparesFree}
use Rattle.array_found_laws.specs.array_call_specs_Kept.{world_in, scope_in}
use Rattle.array_found_laws.specs.array_call_specs_Calls.{world_for}
use Rattle.array_found_laws.specs.array_call_specs_Adopting.{opener, found_loss, absent_losses, found_losses, found_work, IsAdoptable, IsAdopted}
use Rattle.array_create_assemble.specs.declared.opening.Opened.{Opened}
use Rattle.array_create_assemble.specs.Opening.{scope_of, AreGiven, AreFlushed, IsOpened}
use Rattle.array_create_assemble.specs.Filling.{AreZeros}
use Rattle.array_create_assemble.specs.Made.{IsNew}
use Rattle.array_create_assemble.specs.Running.{opened_of, IsBegun, OpensWithZeros, IsCreated, IsAssembled}
use Rattle.array_found_laws.proofs.Elected.{elected-does}
use Rattle.array_create_assemble.proofs.SafeLaws.{opened-told}
use Rattle.array_create_assemble.proofs.NewSound.{whole-sound}
use Rattle.array_create_assemble.proofs.NewZeros.{new-arrays-are-zeros}
use Rattle.array_create_assemble.proofs.Adopting.{adoptable}

below : (a b : ℕ) → a < b → nat_lt a b ≡ true
below a b h = grind (arith, nat_tests, h)

-- ---- an array that was just made

module _ {tells : Type 0} (bank : Given) (tape : List Operation) (backup : Option ℕ) (spec : CreateSpec) (opened : Opened) (new : IsNew bank spec opened)
    (is : IsOpened tells bank (contents bank.start tape (length tape)) backup (Some spec.uuid) opened) where
  abbrev c : Contents
  c = contents bank.start tape (length tape)

  inside : (s : ℕ) → has_slot opened.given s ≡ true → s < bank.slots
  inside s given = less s bank.slots (sym (new.given s) ∙ given)
    where
      less : (a b : ℕ) → nat_lt a b ≡ true → a < b
      less a b e = grind (arith, nat_tests, e)

  state-is : (role : ℕ) → role < spec.shape.disks → role_state (reading_of opened.members) role ≡ Whole role
  state-is role lt = ap (λ (l : List Role). get_or l role Missing) new.members.roles ∙ get_or-tabulate spec.shape.disks (λ role. Whole role) role Missing lt

  pub new-whole : AreWhole opened.members
  new-whole role lt = ap (λ (s : Role). not (is_whole s)) (state-is role (omega (arith, lt, count-still opened.members.newest is.still, ap (λ (s : Shape). s.disks) new.shape)))

  pub new-unlost : AreUnlost opened.members
  new-unlost role slot held = ap (λ (n : ℕ). has_slot n slot) new.members.lost ∙ none_there slot

  new-free : AreSparesFree bank opened.members
  new-free slot is = absurd (let both : false ≡ true = sym (ap (λ (l : List ℕ). has_spare l slot) new.members.spares) ∙ is in cc)

  new-zeros : tells → AreZeros spec.shape.disks spec (contents bank.start tape (length tape))
      → OpensWithZeros (data_disks spec.shape * spec.size) (opening_list (world_in bank tape (scope_of bank backup opened.given opened.members.newest.set_uuid) (length tape)))
  unfolding opening_list
  new-zeros told zeros =
      let holds = (new-arrays-are-zeros bank backup spec c opened new (opened-told told is) zeros).1 in
      record {
        count = holds.count ∙ holds.size;
        each = λ x lt. holds.each x (omega (arith, lt, holds.size));
      }

  new-sound : tells → AreZeros spec.shape.disks spec (contents bank.start tape (length tape))
      → OpensSound (world_in bank tape (scope_of bank backup opened.given opened.members.newest.set_uuid) (length tape))
  unfolding reading_at
  new-sound told zeros =
      let law = new-arrays-are-zeros bank backup spec c opened new (opened-told told is) zeros in
      subst (λ (o : Option Reading). IfSome o (IsSound (scope_of bank backup opened.given opened.members.newest.set_uuid) c)) (sym (is.says told))
      (whole-sound (scope_of bank backup opened.given opened.members.newest.set_uuid) (places_of opened.members)
      (record { valid = valid bank opened.members new.placed; multiple = multiple bank opened.members new.placed; short = short bank opened.members new.placed }) c (reading_in bank.slots opened.members) law.0 law.1.good)

  pub new-adoptable : bank.slots ≤ 32 → (tells → AreFlushed bank.start tape opened.given) → (tells → AreInSectors (contents bank.start tape (length tape)) opened.members.own)
      → IsAdoptable tells bank tape (scope_of bank backup opened.given opened.members.newest.set_uuid) opened.members
  new-adoptable few flushed stand = adoptable bank tape backup (Some spec.uuid) opened few is inside flushed stand new.placed new-unlost new-free

  -- all slots are given
  pub new-failed : (after : ℕ → ℕ) (slot : ℕ) → slot < bank.slots → has_slot opened.given slot ≡ false → 0 < after slot
  new-failed after slot known out = absurd (let both : true ≡ false = sym (new.given slot ∙ below slot bank.slots known) ∙ out in cc)

-- ---- what was taken over

-- a slot that isn't given has failed
pub slots-failed : (bank : Given) (given : ℕ) (before after : ℕ → ℕ) → NeverFalls before after → AreGiven bank given before after
    → (slot : ℕ) → slot < bank.slots → has_slot given slot ≡ false → 0 < after slot
slots-failed bank given before after falls was slot known out = by (was.failed slot known out)
  where
    by : IsFaulted slot before after → 0 < after slot
    by (inl rose) = omega (arith, rose)
    by (inr full) = omega (arith, full, falls slot)

does-without : {tells : Type 0} (bank : Given) (tape : List Operation) (backup : Option ℕ) (asked : Option (List ℕ)) (opened : Opened)
    → IsOpened tells bank (contents bank.start tape (length tape)) backup asked opened → DoWithout opened.members
does-without bank tape backup asked opened is = elected-does (sizes bank).sectors (take bank.slots opened.members.own) opened.members.lost opened.members is.elected

-- no loss is told where no role is missing
none-absent : (r : Reading) (disks : ℕ) → ((role : ℕ) → role < disks → is_missing r role ≡ false) → absent_losses r disks ≡ []
unfolding absent_losses
none-absent r zero whole = refl
none-absent r (suc disks) whole =
    ap₂ (λ (l found : List Event). l ++ found) (none-absent r disks (λ role lt. whole role (omega (arith, lt)))) (none-found (role_state r disks) (whole disks (omega arith)))
  where
    none-found : (state : Role) → not (is_whole state) ≡ false → found_loss disks state ≡ []
    none-found (Whole slot) is = refl
    none-found (Recovering slot) is = absurd (cc)
    none-found Missing is = absurd (cc)

module _ {B tells : Type 0} (device : B) (bank : Given) (tape : List Operation) (backup : Option ℕ) (opened : Opened) (made : Parts B)
    (adopted : IsAdopted tells device tape opened.given backup opened.members made) where
  same-opened : opened ≡ opened_of made
  same-opened = λ i. record { members = sym adopted.members_are i; given = sym adopted.given i }

  same-world : tells → world_in bank tape (scope_of bank backup opened.given opened.members.newest.set_uuid) (length tape) ≡ world_for bank tape made
  same-world told = λ i. world_in bank tape (scope_in bank (sym adopted.uuid i) (sym adopted.given i) (sym adopted.backup_is i)) (sym (adopted.first told) i)

  pub begun : DoWithout opened.members → IsBegun tells tape backup made
  begun does = record {
    entries = adopted.entries ∙ sym (ap (λ (m : Members). entries_of opener made.first (found_losses (reading_of m))) adopted.members_are);
    first = adopted.first;
    last = adopted.last;
    backup_is = adopted.backup_is;
    uuid = adopted.uuid ∙ sym (ap (λ (m : Members). m.newest.set_uuid) adopted.members_are);
    work = adopted.work ∙ sym (ap found_work adopted.members_are);
    does = subst (λ (m : Members). DoWithout m) (sym adopted.members_are) does;
  }

  -- no entry is there where no role is missing
  quiet : AreWhole opened.members → made.entries ≡ []
  quiet whole = adopted.entries ∙ ap (entries_of opener made.first) (none-absent (reading_of opened.members) (shape_of opened.members.newest).disks (λ role lt. whole role (wider role (shape_of opened.members.newest).disks (final_shape opened.members.newest).disks lt)))
    where
      wider : (role a b : ℕ) → role < a → role < max a b
      wider role a b lt = omega (arith, lt)

  pub created : (spec : CreateSpec) → IsNew bank spec opened → IsOpened tells bank (contents bank.start tape (length tape)) backup (Some spec.uuid) opened
      → (tells → AreZeros spec.shape.disks spec (contents bank.start tape (length tape))) → IsCreated tells bank tape backup spec made
  created spec new is zeros = record {
    begun = begun (does-without bank tape backup (Some spec.uuid) opened is);
    new = subst (λ (o : Opened). IsNew bank spec o) same-opened new;
    whole = subst (λ (m : Members). AreWhole m) (sym adopted.members_are) (new-whole bank tape backup spec opened new is);
    quiet = quiet (new-whole bank tape backup spec opened new is);
    opened = subst (λ (o : Opened). IsOpened tells bank (contents bank.start tape (length tape)) backup (Some spec.uuid) o) same-opened is;
    zeros = λ told. subst (λ (w : World). OpensWithZeros (data_disks spec.shape * spec.size) (opening_list w)) (same-world told)
        (new-zeros bank tape backup spec opened new is told (zeros told));
    sound = λ told. subst (λ (w : World). OpensSound w) (same-world told) (new-sound bank tape backup spec opened new is told (zeros told));
  }

  pub assembled : (asked : Option (List ℕ)) (before after : ℕ → ℕ) → IsOpened tells bank (contents bank.start tape (length tape)) backup asked opened
      → AreGiven bank opened.given before after → IfSome asked (λ uuid. opened.members.newest.set_uuid ≡ uuid) → IsAssembled tells bank tape backup asked before after made
  assembled asked before after is given named = record {
    begun = begun (does-without bank tape backup asked opened is);
    opened = subst (λ (o : Opened). IsOpened tells bank (contents bank.start tape (length tape)) backup asked o) same-opened is;
    given = subst (λ (n : ℕ). AreGiven bank n before after) (sym adopted.given) given;
    named = subst (λ (u : List ℕ). IfSome asked (λ uuid. u ≡ uuid)) (sym adopted.uuid) named;
  }

pub ok-then : {T E : Type 0} (result : Result T E) (P Q : T → Type 0) → ((x : T) → P x → Q x) → IfOk result P → IfOk result Q
ok-then (Ok x) P Q step p = step x p
ok-then (Err e) P Q step p = tt

-- What steps keep: where an array goes, and its roles as long as nothing turns.
use Rattle.std.proofs.Common.{◌≡◌, inl, inr, ℕ, ◌++◌, Option, Some, true, false, List, [], length, drop, refl, sym, ◌∙◌, ap, subst, arith, append_assoc, append-nil}
use Rattle.std.proofs.Math.Seq.{drop-append_seam}
use Rattle.std.proofs.lemmas.List.Elements.{All-nil, All-append, All-weaker}
use Rattle.std.specs.Prelude.{⊤}
use Rattle.std.specs.List.{list_any, All}
use Rattle.array.specs.bank_Given.{NeverFalls}
use Rattle.array.proofs.bank_Causes.{faulted_longer}
use Rattle.array.specs.sb_specs_the_Members.{Members}
use Rattle.array.specs.sb_specs_Reading.{is_reshaping, shape_of, final_shape}
use Rattle.array.specs.sb_specs_Reads.{has_spare}
use Rattle.array.specs.history_the_Entry.{Entry}
use Rattle.array.specs.history_the_Event.{Event}
use Rattle.array.specs.history_the_Event_TheVariants.{Lost, SpareLost}
use Rattle.array.specs.history_the_LostCause_TheVariants.{Command, Fault as ByFault}
use Rattle.array.specs.history_World.{World}
use Rattle.array.specs.array_members_Lacking.{HaveRolesFailed}
use Rattle.array.specs.array_members_Placed.{AreStillHeld}
use Rattle.array.specs.array_members_Rebuilding.{Held}
use Rattle.array.specs.array_call_specs_Calls.{IsLossBy, WasSpare, AreSparesFewer, AreLossesOf}
use Rattle.array.specs.array_specs_Parts.{RunningParts}
use Rattle.array.specs.array_specs_Calls.{IsSameReshape}
use Rattle.array.proofs.Kept.{aim-same}
use Rattle.array.proofs.array_reply_specs_GoneOn.{none-first}
use Rattle.array_steps.specs.Steps.{is_turn, has_turned, IsHolderFailed, AreOnlyLost, KeepsItsWay}
use Rattle.array.proofs.array_reply_specs_GoneOn.{none-second}
use Rattle.array.proofs.array_reshaping_laws_WriteLaws.{failed-then}

-- ---- what is told

-- a turn among these entries is told behind the old ones
pub turn-told : {P : Type 0} (old new inner : List Entry) → new ≡ old ++ inner → list_any (λ e. is_turn e.event) inner ≡ true → has_turned old new ≡ false → P
turn-told old new inner is told none =
    absurd (let here : has_turned old new ≡ true = ap (list_any (λ e. is_turn e.event)) (ap (drop (length old)) is ∙ drop-append_seam old inner) ∙ told in let both : true ≡ false = sym here ∙ none in cc)

module _ (old mid new more rest : List Entry) (first : mid ≡ old ++ more) (second : new ≡ mid ++ rest) where
  all-told : list_any (λ e. is_turn e.event) (more ++ rest) ≡ has_turned old new
  all-told = sym (ap (list_any (λ e. is_turn e.event)) (ap (drop (length old)) (second ∙ ap (λ (l : List Entry). l ++ rest) first ∙ append_assoc old more rest) ∙ drop-append_seam old (more ++ rest)))

  unturned-first : has_turned old new ≡ false → has_turned old mid ≡ false
  unturned-first none = ap (list_any (λ e. is_turn e.event)) (ap (drop (length old)) first ∙ drop-append_seam old more) ∙ none-first (λ e. is_turn e.event) more rest (all-told ∙ none)

  unturned-second : has_turned old new ≡ false → has_turned mid new ≡ false
  unturned-second none = ap (list_any (λ e. is_turn e.event)) (ap (drop (length mid)) second ∙ drop-append_seam mid rest) ∙ none-second (λ e. is_turn e.event) more rest (all-told ∙ none)

-- ---- what is told lost

-- the event tells no loss
abbrev pub TellsNoLoss : Event → Type 0
TellsNoLoss (Lost role cause) = ⊥
TellsNoLoss (SpareLost slot) = ⊥
TellsNoLoss event = ⊤

lossless-holder : (m : Members) (f g : ℕ → ℕ) (event : Event) → TellsNoLoss event → IsHolderFailed m f g event
lossless-holder m f g (Lost role cause) none = absurd none
lossless-holder m f g event none = tt

lossless-loss : (Had : ℕ → ℕ → Type 0) (Was : ℕ → Type 0) (f g : ℕ → ℕ) (event : Event) → TellsNoLoss event → IsLossBy Had Was f g event
lossless-loss Had Was f g (Lost role cause) none = absurd none
lossless-loss Had Was f g (SpareLost slot) none = absurd none
lossless-loss Had Was f g event none = tt

-- of a slot that held the role, and no other did
pub same-holder : (m : Members) (role a b : ℕ) → Held m role a → Held m role b → a ≡ b
same-holder m role a b one two = let both : ◌≡◌ {A = Option ℕ} (Some a) (Some b) = sym one ∙ two in cc

-- what is told by a loss of the array as it was later, of which each slot that held a role held it still, or has failed
module _ (a b : Members) (f g h : ℕ → ℕ) (early : NeverFalls f g) (late : NeverFalls g h) where
  holder-first : (event : Event) → IsHolderFailed a f g event → IsHolderFailed a f h event
  holder-first (Lost role ByFault) was = λ slot held. faulted_longer slot f f g h (omega arith) (late slot) (early slot) (was slot held)
  holder-first (Lost role cause) was = tt
  holder-first event was = tt

  holder-second : HaveRolesFailed a b f g → (event : Event) → IsHolderFailed b g h event → IsHolderFailed a f h event
  holder-second roles (Lost role ByFault) was = λ slot held. elim (roles role slot held) [
    | inl there ↦ faulted_longer slot f g h h (early slot) (omega arith) (late slot) (was slot there)
    | inr failed ↦ faulted_longer slot f f g h (omega arith) (late slot) (early slot) failed
  ]
  holder-second roles (Lost role cause) was = tt
  holder-second roles event was = tt

  loss-first : (event : Event) → IsLossBy (Held a) (WasSpare a) f g event → IsLossBy (Held a) (WasSpare a) f h event
  loss-first (Lost role ByFault) (slot, had, failed) = (slot, had, faulted_longer slot f f g h (omega arith) (late slot) (early slot) failed)
  loss-first (Lost role Command) loss = loss
  loss-first (Lost role cause) loss = absurd loss
  loss-first (SpareLost slot) (was, failed) = (was, faulted_longer slot f f g h (omega arith) (late slot) (early slot) failed)
  loss-first event loss = tt

  loss-second : AreStillHeld a b → AreSparesFewer a b → (event : Event) → IsLossBy (Held b) (WasSpare b) g h event → IsLossBy (Held a) (WasSpare a) f h event
  loss-second held fewer (Lost role ByFault) (slot, had, failed) = (slot, held role slot had, faulted_longer slot f g h h (early slot) (omega arith) (late slot) failed)
  loss-second held fewer (Lost role Command) (slot, had) = (slot, held role slot had)
  loss-second held fewer (Lost role cause) loss = absurd loss
  loss-second held fewer (SpareLost slot) (was, failed) = (fewer slot was, faulted_longer slot f g h h (early slot) (omega arith) (late slot) failed)
  loss-second held fewer event loss = tt

  losses-then : AreStillHeld a b → AreSparesFewer a b → (old mid new : List Entry) → AreLossesOf a f g old mid → AreLossesOf b g h mid new → AreLossesOf a f h old new
  losses-then held fewer old mid new one two = record {
    more = one.more ++ two.more;
    grown = two.grown ∙ ap (λ (l : List Entry). l ++ two.more) one.grown ∙ append_assoc old one.more two.more;
    failed = All-append (λ e. IsLossBy (Held a) (WasSpare a) f h e.event) one.more two.more
        (All-weaker (λ e. IsLossBy (Held a) (WasSpare a) f g e.event) (λ e. IsLossBy (Held a) (WasSpare a) f h e.event) (λ e loss. loss-first e.event loss) one.more one.failed)
        (All-weaker (λ e. IsLossBy (Held b) (WasSpare b) g h e.event) (λ e. IsLossBy (Held a) (WasSpare a) f h e.event) (λ e loss. loss-second held fewer e.event loss) two.more two.failed);
  }

-- the entries behind the old ones
behind-is : (old new more : List Entry) → new ≡ old ++ more → drop (length old) new ≡ more
behind-is old new more is = ap (drop (length old)) is ∙ drop-append_seam old more

-- ---- some steps, and more of them

pub way-none : {B : Type 0} (f : ℕ → ℕ) (array : RunningParts B) → KeepsItsWay f f array array
way-none f array = record {
  aim = refl;
  size = refl;
  limit = refl;
  unturned = λ none. record { active = refl; shape = refl; final = refl; ahead = refl };
  roles = λ still none role slot held. inl held;
  failed = λ still none. subst (λ (l : List Entry). All (λ e. IsHolderFailed array.parts.members f f e.event) l) (sym (behind-is array.parts.entries array.parts.entries [] (sym (append-nil array.parts.entries))))
      (All-nil (λ e. IsHolderFailed array.parts.members f f e.event));
  lost = λ active none. record {
    held = λ role slot held. held;
    spares = λ slot is. is;
    losses = record { more = []; grown = sym (append-nil array.parts.entries); failed = All-nil (λ e. IsLossBy (Held array.parts.members) (WasSpare array.parts.members) f f e.event) };
  };
}

pub way-then : {B : Type 0} (a b c : RunningParts B) (f g h : ℕ → ℕ) (more rest : List Entry) → b.parts.entries ≡ a.parts.entries ++ more → c.parts.entries ≡ b.parts.entries ++ rest → NeverFalls f g → NeverFalls g h
    → KeepsItsWay f g a b → KeepsItsWay g h b c → KeepsItsWay f h a c
way-then a b c f g h more rest first second early late one two = record {
  aim = two.aim ∙ one.aim;
  size = two.size ∙ one.size;
  limit = two.limit ∙ one.limit;
  unturned = λ none.
      let was = one.unturned (before none) in
      let is = two.unturned (behind none) in
      record { active = is.active ∙ was.active; shape = is.shape ∙ was.shape; final = is.final ∙ was.final; ahead = is.ahead ∙ was.ahead };
  roles = λ still none.
      failed-then a.parts.members b.parts.members c.parts.members f g h early late (one.roles still (before none)) (two.roles ((one.unturned (before none)).active ∙ still) (behind none));
  failed = λ still none.
      let first-part = subst (λ (l : List Entry). All (λ e. IsHolderFailed a.parts.members f g e.event) l) (behind-is a.parts.entries b.parts.entries more first) (one.failed still (before none)) in
      let second-part = subst (λ (l : List Entry). All (λ e. IsHolderFailed b.parts.members g h e.event) l) (behind-is b.parts.entries c.parts.entries rest second) (two.failed ((one.unturned (before none)).active ∙ still) (behind none)) in
      subst (λ (l : List Entry). All (λ e. IsHolderFailed a.parts.members f h e.event) l) (sym (behind-is a.parts.entries c.parts.entries (more ++ rest) both))
      (All-append (λ e. IsHolderFailed a.parts.members f h e.event) more rest
      (All-weaker (λ e. IsHolderFailed a.parts.members f g e.event) (λ e. IsHolderFailed a.parts.members f h e.event)
      (λ e was. holder-first a.parts.members b.parts.members f g h early late e.event was) more first-part)
      (All-weaker (λ e. IsHolderFailed b.parts.members g h e.event) (λ e. IsHolderFailed a.parts.members f h e.event)
      (λ e was. holder-second a.parts.members b.parts.members f g h early late (one.roles still (before none)) e.event was) rest second-part));
  lost = λ active none.
      let was = one.lost active (before none) in
      let is = two.lost ((one.unturned (before none)).active ∙ active) (behind none) in
      record {
        held = λ role slot held. was.held role slot (is.held role slot held);
        spares = λ slot spare. was.spares slot (is.spares slot spare);
        losses = losses-then a.parts.members b.parts.members f g h early late was.held was.spares a.parts.entries b.parts.entries c.parts.entries was.losses is.losses;
      };
}
  where
    before : has_turned a.parts.entries c.parts.entries ≡ false → has_turned a.parts.entries b.parts.entries ≡ false
    before = unturned-first a.parts.entries b.parts.entries c.parts.entries more rest first second

    behind : has_turned a.parts.entries c.parts.entries ≡ false → has_turned b.parts.entries c.parts.entries ≡ false
    behind = unturned-second a.parts.entries b.parts.entries c.parts.entries more rest first second

    both : c.parts.entries ≡ a.parts.entries ++ (more ++ rest)
    both = second ∙ ap (λ (l : List Entry). l ++ rest) first ∙ append_assoc a.parts.entries more rest

-- the same array with other room
pub way-roomy : {B : Type 0} (f h : ℕ → ℕ) (old mid new : RunningParts B) (n : ℕ) → mid ≡ record old { parts = record old.parts { steps = n } } → KeepsItsWay f h mid new → KeepsItsWay f h old new
way-roomy {B = B} f h old mid new n is was =
    let kept = subst (λ (a : RunningParts B). KeepsItsWay f h a new) is was in
    record {
      aim = kept.aim;
      size = kept.size;
      limit = kept.limit;
      unturned = λ none. let same = kept.unturned none in record { active = same.active; shape = same.shape; final = same.final; ahead = same.ahead };
      roles = kept.roles;
      failed = kept.failed;
      lost = λ active none. let was = kept.lost active none in record { held = was.held; spares = was.spares; losses = was.losses };
    }

-- ---- what keeps the shapes, or the members

module _ {B : Type 0} (before now : ℕ → ℕ) (old new : RunningParts B) where
  -- what was told of the slots that held the roles, without a reshape and in one
  abbrev pub KeepsRoles : Type 0
  KeepsRoles = is_reshaping old.parts.members.newest ≡ false
      → HaveRolesFailed old.parts.members new.parts.members before now × ((more : List Entry) × (new.parts.entries ≡ old.parts.entries ++ more) × All (λ e. IsHolderFailed old.parts.members before now e.event) more)

  abbrev pub LosesOnly : Type 0
  LosesOnly = is_reshaping old.parts.members.newest ≡ true → AreOnlyLost before now old new

  pub way-shaped : is_reshaping new.parts.members.newest ≡ is_reshaping old.parts.members.newest → shape_of new.parts.members.newest ≡ shape_of old.parts.members.newest → final_shape new.parts.members.newest ≡ final_shape old.parts.members.newest
      → new.parts.members.newest.size ≡ old.parts.members.newest.size → new.ahead ≡ old.ahead → new.limit ≡ old.limit → KeepsRoles → LosesOnly → KeepsItsWay before now old new
  way-shaped active shape final size ahead limit roles lost = record {
    aim = aim-same old new active final shape ahead;
    size = size;
    limit = limit;
    unturned = λ none. record { active = active; shape = shape; final = final; ahead = ahead };
    roles = λ still none. (roles still).0;
    failed = λ still none.
        let told = (roles still).1 in
        subst (λ (l : List Entry). All (λ e. IsHolderFailed old.parts.members before now e.event) l) (sym (behind-is old.parts.entries new.parts.entries told.0 told.1)) told.2;
    lost = λ active none. lost active;
  }

  pub way-same : {tells : Type 0} {first second : World} → IsSameReshape tells old new first second → is_reshaping new.parts.members.newest ≡ is_reshaping old.parts.members.newest → KeepsRoles → LosesOnly → KeepsItsWay before now old new
  way-same same active roles lost = way-shaped active same.array.shape same.final same.array.size same.ahead same.limit roles lost

  -- the members stay, and no loss is told
  pub way-members : (more : List Entry) → new.parts.entries ≡ old.parts.entries ++ more → All (λ e. TellsNoLoss e.event) more → new.parts.members ≡ old.parts.members → new.ahead ≡ old.ahead → new.limit ≡ old.limit → KeepsItsWay before now old new
  way-members more grown quiet members ahead limit =
      way-shaped (ap (λ (m : Members). is_reshaping m.newest) members) (ap (λ (m : Members). shape_of m.newest) members) (ap (λ (m : Members). final_shape m.newest) members) (ap (λ (m : Members). m.newest.size) members) ahead limit
      (λ still. (
        λ role slot held. inl (subst (λ (m : Members). Held m role slot) (sym members) held),
        (
          more,
          grown,
          All-weaker (λ e. TellsNoLoss e.event) (λ e. IsHolderFailed old.parts.members before now e.event) (λ e none. lossless-holder old.parts.members before now e.event none) more quiet,
        ),
      ))
      (λ active. record {
        held = λ role slot held. subst (λ (m : Members). Held m role slot) members held;
        spares = λ slot is. subst (λ (m : Members). has_spare m.spares slot ≡ true) members is;
        losses = record {
          more = more;
          grown = grown;
          failed = All-weaker (λ e. TellsNoLoss e.event) (λ e. IsLossBy (Held old.parts.members) (WasSpare old.parts.members) before now e.event)
              (λ e none. lossless-loss (Held old.parts.members) (WasSpare old.parts.members) before now e.event none) more quiet;
        };
      })

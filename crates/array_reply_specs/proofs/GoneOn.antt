-- Steps, and more of them.
use Rattle.std.proofs.Common.{◌≡◌, ◌⊎◌, inl, inr, ℕ, ◌||◌, Bool, true, false, Option, Some, None, List, [], ◌∷◌, ◌++◌, refl, sym, ◌∙◌, ap, subst, arith, append_assoc, append-nil}
use Rattle.std.proofs.lemmas.List.Folds.{list_any-append}
use Rattle.std.proofs.lemmas.List.Sums.{fold-append}
use Rattle.std.proofs.lemmas.List.Elements.{All-nil, All-append, All-weaker}
use Rattle.std.specs.Prelude.{IsTrue, MatchOption}
use Rattle.std.specs.List.{list_any}
use Rattle.bank.specs.declared.bank.Operation.{Operation}
use Rattle.bank.specs.Given.{Given, IsFaulted, NeverFalls}
use Rattle.bank.proofs.Causes.{faulted_longer}
use Rattle.bank.specs.raid_types_the_Refusal.{Refusal}
use Rattle.bank.specs.raid_types_the_Refusal_TheVariants.{SlotFault, BackupFault}
use Rattle.array_specs.specs.sb_specs_the_Members.{Members}
use Rattle.array_specs.specs.sb_specs_Reading.{list_length}
use Rattle.array_specs.specs.sb_specs_Reads.{has_spare}
use Rattle.array_specs.specs.history_the_Entry.{Entry}
use Rattle.array_specs.specs.history_the_Event.{Event}
use Rattle.array_specs.specs.history_the_Event_TheVariants.{Lost, SpareLost, Stepped, Refused}
use Rattle.array_specs.specs.history_the_LostCause.{LostCause}
use Rattle.array_specs.specs.history_the_LostCause_TheVariants.{Absent, Recovering, Command, Fault}
use Rattle.array_specs.specs.history_Flat.{length_of, length_after}
use Rattle.array_specs.specs.history_Reshaped.{is_planned}
use Rattle.array_specs.specs.array_call_specs_Calls.{IsRoleLossBy, IsLossBy}
use Rattle.array_specs.specs.Parts.{RunningParts}
use Rattle.array_reply_specs.specs.Replies.{IsRefusalBy, IsRefusalToldBy, HasToldBy}
use Rattle.array_reply_specs.specs.Going.{may_drop, is_begin, MayBeDropped, MayHoldBehind, WasSpareOrHolder, AreHeldBehind, AreLossesAlong, HasRunOn}

-- ---- counts that rise later, and that rose before

module _ {first before now last : ℕ → ℕ} (early : NeverFalls first before) (between : NeverFalls before now) (late : NeverFalls now last) where
  faulted : (slot : ℕ) → IsFaulted slot before now → IsFaulted slot first last
  faulted slot is = faulted_longer slot first before now last (early slot) (late slot) (between slot) is

  pub refusal-wider : (backup : Option ℕ) (refusal : Refusal) → IsRefusalBy backup before now refusal → IsRefusalBy backup first last refusal
  refusal-wider backup (SlotFault slot) is = faulted slot is
  refusal-wider backup BackupFault is = of backup is
    where
      of : (b : Option ℕ) → MatchOption b ⊥ (λ slot. IsFaulted slot before now) → MatchOption b ⊥ (λ slot. IsFaulted slot first last)
      of None is = absurd is
      of (Some slot) is = faulted slot is
  refusal-wider backup refusal is = tt

  told-wider : (backup : Option ℕ) (event : Event) → IsRefusalToldBy backup before now event → IsRefusalToldBy backup first last event
  told-wider backup (Stepped done left None) is = tt
  told-wider backup (Stepped done left (Some refusal)) is = refusal-wider backup refusal is
  told-wider backup (Refused refusal) is = refusal-wider backup refusal is
  told-wider backup event is = tt

  pub has-told-wider : {old new : List Entry} (backup : Option ℕ) → HasToldBy backup before now old new → HasToldBy backup first last old new
  has-told-wider backup was = record {
    more = was.more;
    grown = was.grown;
    told = All-weaker (λ e. IsRefusalToldBy backup before now e.event) (λ e. IsRefusalToldBy backup first last e.event) (λ e is. told-wider backup e.event is) was.more was.told;
  }

  module _ (Had More : ℕ → ℕ → Type 0) (Was Were : ℕ → Type 0) (more : (role slot : ℕ) → Had role slot → More role slot) (wider : (slot : ℕ) → Was slot → Were slot) where
    role-wider : (role : ℕ) (cause : LostCause) → IsRoleLossBy Had before now role cause → IsRoleLossBy More first last role cause
    role-wider role Fault (slot, had, failed) = (slot, more role slot had, faulted slot failed)
    role-wider role Command (slot, had) = (slot, more role slot had)
    role-wider role Absent loss = absurd loss
    role-wider role Recovering loss = absurd loss

    loss-wider : (event : Event) → IsLossBy Had Was before now event → IsLossBy More Were first last event
    loss-wider (Lost role cause) loss = role-wider role cause loss
    loss-wider (SpareLost slot) (was, failed) = (wider slot was, faulted slot failed)
    loss-wider event loss = tt

pub told-then : {backup : Option ℕ} {before now : ℕ → ℕ} {old mid new : List Entry} → HasToldBy backup before now old mid → HasToldBy backup before now mid new → HasToldBy backup before now old new
told-then {backup = backup} {before = before} {now = now} {old = old} one two = record {
  more = one.more ++ two.more;
  grown = two.grown ∙ ap (λ (l : List Entry). l ++ two.more) one.grown ∙ append_assoc old one.more two.more;
  told = All-append (λ e. IsRefusalToldBy backup before now e.event) one.more two.more one.told two.told;
}

-- ---- the slots that roles may have had

drop-append : (xs ys : List Entry) → list_any (λ e. may_drop e.event) (xs ++ ys) ≡ (list_any (λ e. may_drop e.event) xs || list_any (λ e. may_drop e.event) ys)
drop-append xs ys = list_any-append (λ e. may_drop e.event) xs ys

or-left : (a b : Bool) → IsTrue a → IsTrue (a || b)
or-left a b is = ap (λ (x : Bool). x || b) is

or-right : (a b : Bool) → IsTrue b → IsTrue (a || b)
or-right true b is = refl
or-right false b is = is

module _ (old mid : Members) (one : List Entry) (held : AreHeldBehind old mid one) (two : List Entry) where
  or-more : IsTrue (list_any (λ e. may_drop e.event) one) → IsTrue (list_any (λ e. may_drop e.event) (one ++ two))
  or-more is = drop-append one two ∙ or-left (list_any (λ e. may_drop e.event) one) (list_any (λ e. may_drop e.event) two) is

  or-later : IsTrue (list_any (λ e. may_drop e.event) two) → IsTrue (list_any (λ e. may_drop e.event) (one ++ two))
  or-later is = drop-append one two ∙ or-right (list_any (λ e. may_drop e.event) one) (list_any (λ e. may_drop e.event) two) is

  -- it had a role before, or was a spare
  had-then : (role slot : ℕ) → MayHoldBehind old one role slot → MayHoldBehind old (one ++ two) role slot
  had-then role slot (inl may) = inl may
  had-then role slot (inr (dropped, other, had)) = inr (or-more dropped, other, had)

  spare-then : (slot : ℕ) → (has_spare old.spares slot ≡ true) ⊎ MayBeDropped old one slot → (has_spare old.spares slot ≡ true) ⊎ MayBeDropped old (one ++ two) slot
  spare-then slot (inl spare) = inl spare
  spare-then slot (inr (dropped, other, had)) = inr (or-more dropped, other, had)

  -- one that had a role then, and was dropped
  dropped-then : (slot : ℕ) → MayBeDropped mid two slot → (has_spare old.spares slot ≡ true) ⊎ MayBeDropped old (one ++ two) slot
  dropped-then slot (dropped, role, had) = of (held.roles role slot had)
    where
      of : MayHoldBehind old one role slot → (has_spare old.spares slot ≡ true) ⊎ MayBeDropped old (one ++ two) slot
      of (inl (inl was)) = inr (or-later dropped, role, was)
      of (inl (inr spare)) = inl spare
      of (inr (before, other, was)) = inr (or-more before, other, was)

  as-spare : (role slot : ℕ) → (has_spare old.spares slot ≡ true) ⊎ MayBeDropped old (one ++ two) slot → MayHoldBehind old (one ++ two) role slot
  as-spare role slot (inl spare) = inl (inr spare)
  as-spare role slot (inr dropped) = inr dropped

  pub may-then : (role slot : ℕ) → MayHoldBehind mid two role slot → MayHoldBehind old (one ++ two) role slot
  may-then role slot (inl (inl had)) = had-then role slot (held.roles role slot had)
  may-then role slot (inl (inr spare)) = as-spare role slot (spare-then slot (held.spares slot spare))
  may-then role slot (inr dropped) = as-spare role slot (dropped-then slot dropped)

  pub spares-then : (slot : ℕ) → (has_spare mid.spares slot ≡ true) ⊎ MayBeDropped mid two slot → (has_spare old.spares slot ≡ true) ⊎ MayBeDropped old (one ++ two) slot
  spares-then slot (inl spare) = spare-then slot (held.spares slot spare)
  spares-then slot (inr dropped) = dropped-then slot dropped

-- ---- the losses of more steps

module _ (old mid : Members) (first before now : ℕ → ℕ) (one : List Entry) (held : AreHeldBehind old mid one) (early : NeverFalls first before) (late : NeverFalls before now) where
  -- a spare then, or the holder of a role, was one before
  was-before : (slot : ℕ) → WasSpareOrHolder mid slot → WasSpareOrHolder old slot
  was-before slot (inl spare) = of (held.spares slot spare)
    where
      of : (has_spare old.spares slot ≡ true) ⊎ MayBeDropped old one slot → WasSpareOrHolder old slot
      of (inl was) = inl was
      of (inr (dropped, role, had)) = inr (role, had)
  was-before slot (inr (role, had)) = of (held.roles role slot had)
    where
      of : MayHoldBehind old one role slot → WasSpareOrHolder old slot
      of (inl (inl was)) = inr (role, was)
      of (inl (inr spare)) = inl spare
      of (inr (dropped, other, was)) = inr (other, was)

  losses-later : (done more : List Entry) → AreLossesAlong mid before now done more → AreLossesAlong old first now (one ++ done) more
  losses-later done [] was = tt
  losses-later done (e ∷ more) (loss, was) = (
    loss-wider early late (λ s. omega arith) (MayHoldBehind mid done) (MayHoldBehind old (one ++ done)) (WasSpareOrHolder mid) (WasSpareOrHolder old) (λ role slot had. may-then old mid one held done role slot had) was-before e.event loss,
    subst (λ (l : List Entry). AreLossesAlong old first now l more) (sym (append_assoc one done (e ∷ []))) (losses-later (done ++ e ∷ []) more was),
  )

pub along-append : (members : Members) (before now : ℕ → ℕ) (done xs ys : List Entry) → AreLossesAlong members before now done xs → AreLossesAlong members before now (done ++ xs) ys → AreLossesAlong members before now done (xs ++ ys)
along-append members before now done [] ys one two = subst (λ (l : List Entry). AreLossesAlong members before now l ys) (append-nil done) two
along-append members before now done (x ∷ xs) ys (loss, one) two = (
  loss,
  along-append members before now (done ++ x ∷ []) xs ys one (subst (λ (l : List Entry). AreLossesAlong members before now l ys) (sym (append_assoc done (x ∷ []) xs)) two),
)

along-wider : (members : Members) (before now last : ℕ → ℕ) (done xs : List Entry) → NeverFalls before now → NeverFalls now last → AreLossesAlong members before now done xs → AreLossesAlong members before last done xs
along-wider members before now last done [] rises late was = tt
along-wider members before now last done (x ∷ xs) rises late (loss, was) = (
  loss-wider (λ s. omega arith) rises late (MayHoldBehind members done) (MayHoldBehind members done) (WasSpareOrHolder members) (WasSpareOrHolder members) (λ role slot had. had) (λ slot was. was) x.event loss,
  along-wider members before now last (done ++ x ∷ []) xs rises late was,
)

-- ---- what more steps don't tell, none of them does

pub none-first : (p : Entry → Bool) (xs ys : List Entry) → list_any p (xs ++ ys) ≡ false → list_any p xs ≡ false
none-first p xs ys none = by (list_any p xs) (sym (list_any-append p xs ys) ∙ none)
  where
    by : (a : Bool) → (a || list_any p ys) ≡ false → a ≡ false
    by false is = refl
    by true is = absurd (cc)

pub none-second : (p : Entry → Bool) (xs ys : List Entry) → list_any p (xs ++ ys) ≡ false → list_any p ys ≡ false
none-second p xs ys none = by (list_any p xs) (sym (list_any-append p xs ys) ∙ none)
  where
    by : (a : Bool) → (a || list_any p ys) ≡ false → list_any p ys ≡ false
    by false is = is
    by true is = absurd (cc)

-- ---- all that they leave

pub gone-then : {B : Type 0} (tells : Type 0) (given : B → Given) (tape : B → List Operation) (faults : B → ℕ → ℕ) (old mid new : RunningParts B) → HasRunOn tells given tape faults old mid → HasRunOn tells given tape faults mid new → HasRunOn tells given tape faults old new
gone-then tells given tape faults old mid new one two = record {
  more = one.more ++ two.more;
  grown = two.grown ∙ ap (λ (l : List Entry). l ++ two.more) one.grown ∙ append_assoc old.parts.entries one.more two.more;
  sized = two.sized ∙ ap (λ (n : ℕ). length_of n two.more) one.sized ∙ sym (fold-append (λ n e. length_after n e.event) (list_length old.parts.members.newest) one.more two.more);
  held = record {
    roles = λ role slot had. may-then old.parts.members mid.parts.members one.more one.held two.more role slot (two.held.roles role slot had);
    spares = λ slot spare. spares-then old.parts.members mid.parts.members one.more one.held two.more slot (two.held.spares slot spare);
  };
  losses = along-append old.parts.members (faults old.parts.bank) (faults new.parts.bank) [] one.more two.more
      (along-wider old.parts.members (faults old.parts.bank) (faults mid.parts.bank) (faults new.parts.bank) [] one.more one.never_falls two.never_falls one.losses)
      (subst (λ (l : List Entry). AreLossesAlong old.parts.members (faults old.parts.bank) (faults new.parts.bank) l two.more) (append-nil one.more)
      (losses-later old.parts.members mid.parts.members (faults old.parts.bank) (faults mid.parts.bank) (faults new.parts.bank) one.more one.held one.never_falls two.never_falls [] two.more two.losses));
  refusals = told-then (has-told-wider (λ s. omega arith) one.never_falls two.never_falls old.parts.backup one.refusals)
      (subst (λ (b : Option ℕ). HasToldBy b (faults old.parts.bank) (faults new.parts.bank) mid.parts.entries new.parts.entries) one.same.backup
      (has-told-wider one.never_falls two.never_falls (λ s. omega arith) mid.parts.backup two.refusals));
  grows = record {
    more = λ t. let first = one.grows.more t in let next = two.grows.more t in (first.0 ++ next.0, next.1 ∙ ap (λ (l : List Operation). l ++ next.0) (first.1) ∙ append_assoc (tape old.parts.bank) (first.0) (next.0));
  };
  never_falls = λ s. let low = one.never_falls s in let high = two.never_falls s in omega (arith, low, high);
  given_is = two.given_is ∙ one.given_is;
  same = record { uuid = two.same.uuid ∙ one.same.uuid; given = two.same.given ∙ one.same.given; first = two.same.first ∙ one.same.first; backup = two.same.backup ∙ one.same.backup };
  active = λ still none. two.active (one.active still (none-first (λ e. is_begin e.event) one.more two.more none)) (none-second (λ e. is_begin e.event) one.more two.more none);
  ahead = λ empty none. two.ahead (one.ahead empty (none-first (λ e. is_planned e.event) one.more two.more none)) (none-second (λ e. is_planned e.event) one.more two.more none);
}

-- no step
pub gone-none : {B : Type 0} (tells : Type 0) (given : B → Given) (tape : B → List Operation) (faults : B → ℕ → ℕ) (array : RunningParts B) → HasRunOn tells given tape faults array array
gone-none tells given tape faults array = record {
  more = [];
  grown = sym (append-nil array.parts.entries);
  sized = refl;
  held = record { roles = λ role slot had. inl (inl had); spares = λ slot spare. inl spare };
  losses = tt;
  refusals = record { more = []; grown = sym (append-nil array.parts.entries); told = All-nil (λ e. IsRefusalToldBy array.parts.backup (faults array.parts.bank) (faults array.parts.bank) e.event) };
  grows = record { more = λ t. ([], sym (append-nil (tape array.parts.bank))) };
  never_falls = λ s. omega arith;
  given_is = refl;
  same = record { uuid = refl; given = refl; first = refl; backup = refl };
  active = λ still none. still;
  ahead = λ empty none. empty;
}

-- Which slots may have roles behind callers' calls, one after another.
use Rattle.std.proofs.Common.{◌≡◌, ◌⊎◌, inl, inr, ℕ, ◌||◌, Bool, true, false, List, [], ◌∷◌, ◌++◌, refl, sym, ◌∙◌, ap, subst, arith, append_assoc, append-nil}
use Rattle.std.proofs.lemmas.List.Folds.{list_any-append}
use Rattle.std.proofs.lemmas.List.Elements.{All-head, All-tail}
use Rattle.std.proofs.Math.Seq.{drop-append_seam}
use Rattle.std.specs.Prelude.{length, drop, IsTrue}
use Rattle.std.specs.List.{All, list_any}
use Rattle.bank.specs.Given.{NeverFalls}
use Rattle.bank.proofs.Causes.{faulted_longer}
use Rattle.array_open.specs.sb_specs_the_Members.{Members}
use Rattle.array_open.specs.sb_specs_Reads.{has_spare}
use Rattle.history_append.specs.history_the_Entry.{Entry}
use Rattle.history_append.specs.history_the_Event.{Event}
use Rattle.history_append.specs.history_the_Event_TheVariants.{Lost, SpareLost}
use Rattle.history_append.specs.history_the_LostCause.{LostCause}
use Rattle.history_append.specs.history_the_LostCause_TheVariants.{Absent, Recovering, Command, Fault}
use Rattle.array_open.specs.array_members_Placed.{AreStillHeld}
use Rattle.array_open.specs.array_members_Rebuilding.{Held}
use Rattle.array_open.specs.array_call_specs_Calls.{IsRoleLossBy, IsLossBy, WasSpare, AreLossesBy}
use Rattle.array_open.specs.array_reply_specs_Going.{may_drop, MayBeDropped, MayHoldBehind, WasSpareOrHolder, AreHeldBehind, AreLossesAlong}
use Rattle.array_requests.specs.Going.{is_added, MayBeNewSpare, MayHoldSince, WasMemberSince, AreHeldSince, AreLossesSince}

-- ---- some entry is of a kind, in one list or in the other

or-left : (a b : Bool) → IsTrue a → IsTrue (a || b)
or-left a b is = ap (λ (x : Bool). x || b) is

or-right : (a b : Bool) → IsTrue b → IsTrue (a || b)
or-right true b is = refl
or-right false b is = is

any-left : (p : Event → Bool) (xs ys : List Entry) → IsTrue (list_any (λ e. p e.event) xs) → IsTrue (list_any (λ e. p e.event) (xs ++ ys))
any-left p xs ys is = list_any-append (λ e. p e.event) xs ys ∙ or-left (list_any (λ e. p e.event) xs) (list_any (λ e. p e.event) ys) is

pub any-right : (p : Event → Bool) (xs ys : List Entry) → IsTrue (list_any (λ e. p e.event) ys) → IsTrue (list_any (λ e. p e.event) (xs ++ ys))
any-right p xs ys is = list_any-append (λ e. p e.event) xs ys ∙ or-right (list_any (λ e. p e.event) xs) (list_any (λ e. p e.event) ys) is

pub none-left : (p : Event → Bool) (xs ys : List Entry) → list_any (λ e. p e.event) (xs ++ ys) ≡ false → list_any (λ e. p e.event) xs ≡ false
none-left p xs ys none = by (list_any (λ e. p e.event) xs) (sym (list_any-append (λ e. p e.event) xs ys) ∙ none)
  where
    by : (a : Bool) → (a || list_any (λ e. p e.event) ys) ≡ false → a ≡ false
    by false is = refl
    by true is = absurd (cc)

pub none-right : (p : Event → Bool) (xs ys : List Entry) → list_any (λ e. p e.event) (xs ++ ys) ≡ false → list_any (λ e. p e.event) ys ≡ false
none-right p xs ys none = by (list_any (λ e. p e.event) xs) (sym (list_any-append (λ e. p e.event) xs ys) ∙ none)
  where
    by : (a : Bool) → (a || list_any (λ e. p e.event) ys) ≡ false → list_any (λ e. p e.event) ys ≡ false
    by false is = is
    by true is = absurd (cc)

-- ---- one call after another

module _ (old mid : Members) (one : List Entry) (held : AreHeldSince old mid one) (two : List Entry) where
  -- a slot that is a new spare is one behind more
  new-on : (slot : ℕ) → MayBeNewSpare old one slot → MayBeNewSpare old (one ++ two) slot
  new-on slot (inl added) = inl (any-left (is_added slot) one two added)
  new-on slot (inr (dropped, other, had)) = inr (any-left may_drop one two dropped, other, had)

  had-on : (role slot : ℕ) → MayHoldSince old one role slot → MayHoldSince old (one ++ two) role slot
  had-on role slot (inl may) = inl may
  had-on role slot (inr new) = inr (new-on slot new)

  spare-on : (slot : ℕ) → (has_spare old.spares slot ≡ true) ⊎ MayBeNewSpare old one slot → (has_spare old.spares slot ≡ true) ⊎ MayBeNewSpare old (one ++ two) slot
  spare-on slot (inl spare) = inl spare
  spare-on slot (inr new) = inr (new-on slot new)

  -- one that is a new spare of the second call is one since the first, or was one
  new-then : (slot : ℕ) → MayBeNewSpare mid two slot → (has_spare old.spares slot ≡ true) ⊎ MayBeNewSpare old (one ++ two) slot
  new-then slot (inl added) = inr (inl (any-right (is_added slot) one two added))
  new-then slot (inr (dropped, role, had)) = of (held.roles role slot had)
    where
      of : MayHoldSince old one role slot → (has_spare old.spares slot ≡ true) ⊎ MayBeNewSpare old (one ++ two) slot
      of (inl (inl was)) = inr (inr (any-right may_drop one two dropped, role, was))
      of (inl (inr spare)) = inl spare
      of (inr new) = inr (new-on slot new)

  as-spare : (role slot : ℕ) → (has_spare old.spares slot ≡ true) ⊎ MayBeNewSpare old (one ++ two) slot → MayHoldSince old (one ++ two) role slot
  as-spare role slot (inl spare) = inl (inr spare)
  as-spare role slot (inr new) = inr new

  pub may-then : (role slot : ℕ) → MayHoldSince mid two role slot → MayHoldSince old (one ++ two) role slot
  may-then role slot (inl (inl had)) = had-on role slot (held.roles role slot had)
  may-then role slot (inl (inr spare)) = as-spare role slot (spare-on slot (held.spares slot spare))
  may-then role slot (inr new) = as-spare role slot (new-then slot new)

  pub spares-then : (slot : ℕ) → (has_spare mid.spares slot ≡ true) ⊎ MayBeNewSpare mid two slot → (has_spare old.spares slot ≡ true) ⊎ MayBeNewSpare old (one ++ two) slot
  spares-then slot (inl spare) = spare-on slot (held.spares slot spare)
  spares-then slot (inr new) = new-then slot new

-- ---- the losses of more calls

-- by more slots, by counts that rise later, and that rose before
module _ {first before now last : ℕ → ℕ} (early : NeverFalls first before) (between : NeverFalls before now) (late : NeverFalls now last) (Had More : ℕ → ℕ → Type 0) (Was Were : ℕ → Type 0) (more : (role slot : ℕ) → Had role slot → More role slot)
    (wider : (slot : ℕ) → Was slot → Were slot) where
  role-wider : (role : ℕ) (cause : LostCause) → IsRoleLossBy Had before now role cause → IsRoleLossBy More first last role cause
  role-wider role Fault (slot, had, failed) = (slot, more role slot had, faulted_longer slot first before now last (early slot) (late slot) (between slot) failed)
  role-wider role Command (slot, had) = (slot, more role slot had)
  role-wider role Absent loss = absurd loss
  role-wider role Recovering loss = absurd loss

  loss-wider : (event : Event) → IsLossBy Had Was before now event → IsLossBy More Were first last event
  loss-wider (Lost role cause) loss = role-wider role cause loss
  loss-wider (SpareLost slot) (was, failed) = (wider slot was, faulted_longer slot first before now last (early slot) (late slot) (between slot) failed)
  loss-wider event loss = tt

module _ (old mid : Members) (first before now : ℕ → ℕ) (one : List Entry) (held : AreHeldSince old mid one) (early : NeverFalls first before) (late : NeverFalls before now) where
  -- who was a spare then, or had a role, or was added later, was so before, or was added since
  was-before : (done : List Entry) (slot : ℕ) → WasMemberSince mid done slot → WasMemberSince old (one ++ done) slot
  was-before done slot (inl (inl spare)) = of (held.spares slot spare)
    where
      of : (has_spare old.spares slot ≡ true) ⊎ MayBeNewSpare old one slot → WasMemberSince old (one ++ done) slot
      of (inl was) = inl (inl was)
      of (inr (inl added)) = inr (any-left (is_added slot) one done added)
      of (inr (inr (dropped, role, had))) = inl (inr (role, had))
  was-before done slot (inl (inr (role, had))) = of (held.roles role slot had)
    where
      of : MayHoldSince old one role slot → WasMemberSince old (one ++ done) slot
      of (inl (inl was)) = inl (inr (role, was))
      of (inl (inr spare)) = inl (inl spare)
      of (inr (inl added)) = inr (any-left (is_added slot) one done added)
      of (inr (inr (dropped, other, was))) = inl (inr (other, was))
  was-before done slot (inr added) = inr (any-right (is_added slot) one done added)

  pub losses-later : (done more : List Entry) → AreLossesSince mid before now done more → AreLossesSince old first now (one ++ done) more
  losses-later done [] was = tt
  losses-later done (e ∷ more) (loss, was) = (
    loss-wider early late (λ s. omega arith) (MayHoldSince mid done) (MayHoldSince old (one ++ done)) (WasMemberSince mid done) (WasMemberSince old (one ++ done))
        (λ role slot had. may-then old mid one held done role slot had) (was-before done) e.event loss,
    subst (λ (l : List Entry). AreLossesSince old first now l more) (sym (append_assoc one done (e ∷ []))) (losses-later (done ++ e ∷ []) more was),
  )

pub since-append : (members : Members) (before now : ℕ → ℕ) (done xs ys : List Entry) → AreLossesSince members before now done xs → AreLossesSince members before now (done ++ xs) ys → AreLossesSince members before now done (xs ++ ys)
since-append members before now done [] ys one two = subst (λ (l : List Entry). AreLossesSince members before now l ys) (append-nil done) two
since-append members before now done (x ∷ xs) ys (loss, one) two = (
  loss,
  since-append members before now (done ++ x ∷ []) xs ys one (subst (λ (l : List Entry). AreLossesSince members before now l ys) (sym (append_assoc done (x ∷ []) xs)) two),
)

pub since-wider : (members : Members) (before now last : ℕ → ℕ) (done xs : List Entry) → NeverFalls before now → NeverFalls now last → AreLossesSince members before now done xs → AreLossesSince members before last done xs
since-wider members before now last done [] rises late was = tt
since-wider members before now last done (x ∷ xs) rises late (loss, was) = (
  loss-wider (λ s. omega arith) rises late (MayHoldSince members done) (MayHoldSince members done) (WasMemberSince members done) (WasMemberSince members done) (λ role slot had. had) (λ slot was. was) x.event loss,
  since-wider members before now last (done ++ x ∷ []) xs rises late was,
)

-- ---- from what steps say

may-behind : (members : Members) (entries : List Entry) (role slot : ℕ) → MayHoldBehind members entries role slot → MayHoldSince members entries role slot
may-behind members entries role slot (inl may) = inl may
may-behind members entries role slot (inr dropped) = inr (inr dropped)

pub held-behind : (old new : Members) (entries : List Entry) → AreHeldBehind old new entries → AreHeldSince old new entries
held-behind old new entries was = record { roles = λ role slot has. may-behind old entries role slot (was.roles role slot has); spares = λ slot spare. of slot (was.spares slot spare) }
  where
    of : (slot : ℕ) → (has_spare old.spares slot ≡ true) ⊎ MayBeDropped old entries slot → (has_spare old.spares slot ≡ true) ⊎ MayBeNewSpare old entries slot
    of slot (inl spare) = inl spare
    of slot (inr dropped) = inr (inr dropped)

pub losses-behind : (members : Members) (before now : ℕ → ℕ) (done xs : List Entry) → NeverFalls before now → AreLossesAlong members before now done xs → AreLossesSince members before now done xs
losses-behind members before now done [] rises was = tt
losses-behind members before now done (x ∷ xs) rises (loss, was) = (
  loss-wider (λ s. omega arith) rises (λ s. omega arith) (MayHoldBehind members done) (MayHoldSince members done) (WasSpareOrHolder members) (WasMemberSince members done)
      (λ role slot had. may-behind members done role slot had) (λ slot was. inl was) x.event loss,
  losses-behind members before now (done ++ x ∷ []) xs rises was,
)

-- ---- from what one call says, in which roles are only lost

pub held-kept : (old new : Members) (entries : List Entry) → AreStillHeld old new → ((slot : ℕ) → has_spare new.spares slot ≡ true → (has_spare old.spares slot ≡ true) ⊎ IsTrue (list_any (λ e. is_added slot e.event) entries))
    → AreHeldSince old new entries
held-kept old new entries held spares = record { roles = λ role slot has. inl (inl (held role slot has)); spares = λ slot spare. of slot (spares slot spare) }
  where
    of : (slot : ℕ) → (has_spare old.spares slot ≡ true) ⊎ IsTrue (list_any (λ e. is_added slot e.event) entries) → (has_spare old.spares slot ≡ true) ⊎ MayBeNewSpare old entries slot
    of slot (inl spare) = inl spare
    of slot (inr added) = inr (inl added)

each-loss : (members : Members) (before now : ℕ → ℕ) (rises : NeverFalls before now) (done xs : List Entry) → All (λ e. IsLossBy (Held members) (WasSpare members) before now e.event) xs → AreLossesSince members before now done xs
each-loss members before now rises done [] all = tt
each-loss members before now rises done (x ∷ xs) all = (
  loss-wider (λ s. omega arith) rises (λ s. omega arith) (Held members) (MayHoldSince members done) (WasSpare members) (WasMemberSince members done) (λ role slot had. inl (inl had)) (λ slot was. inl (inl was)) x.event (All-head (λ e. IsLossBy (Held members) (WasSpare members) before now e.event) x xs all),
  each-loss members before now rises (done ++ x ∷ []) xs (All-tail (λ e. IsLossBy (Held members) (WasSpare members) before now e.event) x xs all),
)

-- those of a call that entered these entries
pub losses-of : (members : Members) (before now : ℕ → ℕ) (old new more : List Entry) → NeverFalls before now → new ≡ old ++ more → AreLossesBy (Held members) (WasSpare members) before now old new → AreLossesSince members before now [] more
losses-of members before now old new more rises is was =
    each-loss members before now rises [] more
    (subst (λ (l : List Entry). All (λ e. IsLossBy (Held members) (WasSpare members) before now e.event) l)
    (sym (drop-append_seam old was.more) ∙ ap (λ (l : List Entry). drop (length old) l) (sym was.grown ∙ is) ∙ drop-append_seam old more) was.failed)

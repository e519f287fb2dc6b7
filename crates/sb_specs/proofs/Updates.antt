-- Passes one after the other, as one update.
use Rattle.std.proofs.Common.{◌≡◌, ◌≢◌, ◌⊎◌, inl, inr, ⊎_elim, ℕ, zero, suc, ◌+◌, ◌<◌, ◌≤◌, ◌==◌, Bool, true, false, not, ◌&&◌, List, Option, [], ◌∷◌, length, take, append-nil, refl, sym, ◌∙◌, ap, subst, arith}
use Rattle.std.specs.Int.{bit_at}
use Rattle.std.proofs.lemmas.Bool.{cases_eq, cases_lt}
use Rattle.std.proofs.lemmas.List.{take_all}
use Rattle.std.proofs.lemmas.Nat.Bits.{bit_at-lt, same_from_bits}
use Rattle.bank.specs.raid_types_Sectors.{Sector}
use Rattle.reshape_geometry.specs.raid_types_Shapes.{has_slot}
use Rattle.bank.specs.declared.bank.Operation.{Operation}
use Rattle.bank.specs.Given.{NeverFalls}
use Rattle.bank.specs.Tape.{IsIn, Kept, disk, EachMark}
use Rattle.bank.proofs.Laws.{choices-present, kept_again}
use Rattle.bank.proofs.Marks.{each_mark-along, each_mark-map, each_mark-then}
use Rattle.bank.proofs.Causes.{faulted_longer}
use Rattle.sb_codec.specs.declared.sb.Sb.{Sb}
use Rattle.sb_specs.specs.declared.change.Give.{Give}
use Rattle.sb_specs.specs.declared.change.Part.{Part}
use Rattle.sb_specs.specs.Update.{is_part, is_due, is_recovery, give_of, own_in}
use Rattle.sb_specs.specs.Writing.{IsPlanned, IsBetween, IsWritten, IsStage, IsWriting, AreWritten, plan_of}
use Rattle.sb_specs.specs.Updating.{IsTouched, IsUpdating, IsUpdated, IsUpdate, AreLosses, IsLater, IsRecorded, ArePlanned, AreOthersKept, AreRecoveriesKept, AreRecoveriesWritten, IsInOrder}

abbrev Disk : Type 0
Disk = ℕ → ℕ → List Sector

-- a sector always has a value
some_value : (start : ℕ → ℕ → Sector) (tape : List Operation) (s k : ℕ) → 0 < length (disk start tape s k)
some_value start tape s k = at_least (disk start tape s k) (ap length (choices-present s k (start s k) [] tape))
  where
    at_least : (l : List Sector) → length (take 1 l) ≡ 1 → 0 < length l
    at_least [] is = absurd (omega (arith, is))
    at_least (x ∷ l) is = omega arith

-- after a turn a sector is at most between
written_between : (Plan : Sector → Type 0) (failed : Bool) (old now : List Sector) → IsWritten Plan failed old now → IsBetween Plan old now
written_between Plan true old now w = w
written_between Plan false old now (v, plan, is) = inr (v, plan, inr is)

between_two : (Plan : Sector → Type 0) (old now : List Sector) → 0 < length old → IsBetween Plan old now → length now ≤ length old + 1
between_two Plan old now some (inl is) = omega (arith, ap length is)
between_two Plan old now some (inr (v, plan, inl is)) = omega (arith, ap length is)
between_two Plan old now some (inr (v, plan, inr is)) = omega (arith, ap length is)

between_values : (Plan : Sector → Type 0) (old now : List Sector) (v : Sector) → IsBetween Plan old now → IsIn now v → IsIn old v ⊎ Plan v
between_values Plan old now v (inl is) held = inl (subst (λ (l : List Sector). IsIn l v) is held)
between_values Plan old now v (inr (w, plan, inl is)) held = of (subst (λ (l : List Sector). IsIn l v) is held)
  where
    of : (v ≡ w) ⊎ IsIn old v → IsIn old v ⊎ Plan v
    of (inl same) = inr (subst Plan (sym same) plan)
    of (inr there) = inl there
between_values Plan old now v (inr (w, plan, inr is)) held = of (subst (λ (l : List Sector). IsIn l v) is held)
  where
    of : (v ≡ w) ⊎ ⊥ → IsIn old v ⊎ Plan v
    of (inl same) = inr (subst Plan (sym same) plan)
    of (inr none) = absurd none

written_single : (Plan : Sector → Type 0) (failed : Bool) (old now : List Sector) → 0 < length old → failed ≡ false → IsWritten Plan failed old now → length now ≤ length old
written_single Plan true old now some is w = absurd (cc)
written_single Plan false old now some is (v, plan, eq) = omega (arith, ap length eq)

by_bool : (b : Bool) → (b ≡ true) ⊎ (b ≡ false)
by_bool true = inl refl
by_bool false = inr refl

-- one pass, where a slot that is due is live and wasn't lost
module _ (Plan : ℕ → Sector → Type 0) (due : ℕ → Bool) (live lost0 lost : ℕ) (d : Disk) (some : (s : ℕ) → 0 < length (d s 8)) (Written : ℕ → Sector → Type 0) (plan : (s : ℕ) (v : Sector) → Plan s v → Written s v)
    (due_live : (s : ℕ) → due s ≡ true → has_slot live s ≡ true) (due_left : (s : ℕ) → due s ≡ true → has_slot lost0 s ≡ false) where
  -- each slot's sector is as it was, or the slot was due and it is at most between
  abbrev pub Each : Disk → Type 0
  Each e = (s : ℕ) → (e s 8 ≡ d s 8) ⊎ ((due s ≡ true) × IsBetween (Plan s) (d s 8) (e s 8))

  touched : (e : Disk) → Each e → ((s k : ℕ) → due s ≡ false → e s k ≡ d s k) → ((s k : ℕ) → k ≢ 8 → Kept (d s k) (e s k)) → IsTouched live lost0 Written d e
  touched e each others elsewhere = record {
    two = λ s. ⊎_elim (λ is. omega (arith, ap length is)) (λ b. between_two (Plan s) (d s 8) (e s 8) (some s) b.1) (each s);
    values = λ s v held. ⊎_elim (λ is. inl (subst (λ (l : List Sector). IsIn l v) is held))
        (λ b. ⊎_elim (λ there. inl there) (λ p. inr (plan s v p)) (between_values (Plan s) (d s 8) (e s 8) v b.1 held)) (each s);
    gone = λ s k is. ⊎_elim (λ due_is. absurd (let both = sym is ∙ due_left s due_is in cc)) (λ undue. others s k undue) (by_bool (due s));
    others = λ s k is. ⊎_elim (λ due_is. absurd (let both = sym is ∙ due_live s due_is in cc)) (λ undue. others s k undue) (by_bool (due s));
    elsewhere = elsewhere;
  }

  stage_each : (turn : ℕ) (e : Disk) → IsStage Plan due (has_slot lost) turn d e → Each e
  stage_each turn e at s = ⊎_elim
      (λ is. elim (cases_lt s turn) [
        | inl below ↦ inr (is, written_between (Plan s) (has_slot lost s) (d s 8) (e s 8) (at.before s below is))
        | inr above ↦ elim (cases_eq s turn) [
          | inl same ↦ inr (is, subst (λ (x : ℕ). IsBetween (Plan x) (d x 8) (e x 8)) (sym same) (at.here (ap due (sym same) ∙ is)))
          | inr apart ↦ inl (at.after s (omega (arith, above, apart)))
        ]
      ])
      (λ none. inl (at.others s 8 none)) (by_bool (due s))

  pass_marks : (e : Disk) → IsWriting Plan due (has_slot lost) d e → IsUpdating live lost0 lost Written d e
  pass_marks e (turn, at) = record {
    touched = touched e (stage_each turn e at) at.others at.elsewhere;
    turn = turn;
    single = λ s apart left. ⊎_elim
        (λ is. elim (cases_lt s turn) [
          | inl below ↦ written_single (Plan s) (has_slot lost s) (d s 8) (e s 8) (some s) left (at.before s below is)
          | inr above ↦ omega (arith, ap length (at.after s (omega (arith, above, apart))))
        ])
        (λ none. omega (arith, ap length (at.others s 8 none))) (by_bool (due s));
  }

  pass_end : (e : Disk) → AreWritten Plan due (has_slot lost) d e → IsUpdated live lost0 lost Written d e
  pass_end e at = record {
    touched = touched e (λ s. ⊎_elim (λ is. inr (is, written_between (Plan s) (has_slot lost s) (d s 8) (e s 8) (at.written s is))) (λ none. inl (at.others s 8 none)) (by_bool (due s))) at.others at.elsewhere;
    single = λ s left. ⊎_elim
        (λ is. written_single (Plan s) (has_slot lost s) (d s 8) (e s 8) (some s) left (at.written s is))
        (λ none. omega (arith, ap length (at.others s 8 none))) (by_bool (due s));
  }

pub pass-update : {tells : Type 0} (Plan : ℕ → Sector → Type 0) (due : ℕ → Bool) (live lost0 lost : ℕ) (start : ℕ → ℕ → Sector) (old new : List Operation) (Written : ℕ → Sector → Type 0)
    → ((s : ℕ) (v : Sector) → Plan s v → Written s v) → ((s : ℕ) → due s ≡ true → has_slot live s ≡ true) → ((s : ℕ) → due s ≡ true → has_slot lost0 s ≡ false)
    → EachMark tells start old new (IsWriting Plan due (has_slot lost) (disk start old)) → (tells → AreWritten Plan due (has_slot lost) (disk start old) (disk start new)) → IsUpdate tells live lost0 lost Written start old new
pass-update Plan due live lost0 lost start old new Written plan due_live due_left marks written = record {
  marks = each_mark-map (IsUpdating live lost0 lost Written (disk start old)) (λ _ e at. pass_marks Plan due live lost0 lost (disk start old) (λ s. some_value start old s 8) Written plan due_live due_left e at) marks;
  end = λ told. pass_end Plan due live lost0 lost (disk start old) (λ s. some_value start old s 8) Written plan due_live due_left (disk start new) (written told);
}

-- two stretches, one after the other
module _ (live lost0 lost1 lost2 : ℕ) (Written : ℕ → Sector → Type 0) (more : (s : ℕ) → has_slot lost0 s ≡ true → has_slot lost1 s ≡ true) (more' : (s : ℕ) → has_slot lost1 s ≡ true → has_slot lost2 s ≡ true) where
  left_before : (s : ℕ) → has_slot lost2 s ≡ false → has_slot lost1 s ≡ false
  left_before s left = ⊎_elim (λ is. absurd (let both = sym (more' s is) ∙ left in cc)) (λ none. none) (by_bool (has_slot lost1 s))

  touched_then : (d0 d e : Disk) → IsUpdated live lost0 lost1 Written d0 d → IsTouched live lost1 Written d e → IsTouched live lost0 Written d0 e
  touched_then d0 d e first second = record {
    two = λ s. ⊎_elim (λ is. omega (arith, ap length (second.gone s 8 is), first.touched.two s)) (λ none. omega (arith, second.two s, first.single s none)) (by_bool (has_slot lost1 s));
    values = λ s v held. ⊎_elim (λ there. first.touched.values s v there) (λ w. inr w) (second.values s v held);
    gone = λ s k is. second.gone s k (more s is) ∙ first.touched.gone s k is;
    others = λ s k none. second.others s k none ∙ first.touched.others s k none;
    elsewhere = λ s k not. kept_again (d0 s k) (d s k) (e s k) (first.touched.elsewhere s k not) (second.elsewhere s k not);
  }

  pub update-then : {tells : Type 0} (start : ℕ → ℕ → Sector) (old mid new : List Operation) → IsUpdate tells live lost0 lost1 Written start old mid → IsUpdate tells live lost1 lost2 Written start mid new → IsUpdate tells live lost0 lost2 Written start old new
  update-then {tells = tells} start old mid new first second = record {
    marks = each_mark-then
        (each_mark-map (IsUpdating live lost0 lost2 Written (disk start old)) (λ told e at. record { touched = at.touched; turn = at.turn; single = λ s apart left. at.single s apart (left_before s left) }) first.marks)
        (each_mark-map (IsUpdating live lost0 lost2 Written (disk start old))
        (λ told e at. record { touched = touched_then (disk start old) (disk start mid) e (first.end told) at.touched; turn = at.turn; single = λ s apart left. omega (arith, at.single s apart left, (first.end told).single s (left_before s left)) }) second.marks);
    end = λ told.
        let at = second.end told in
        record { touched = touched_then (disk start old) (disk start mid) (disk start new) (first.end told) at.touched; single = λ s left. omega (arith, at.single s left, (first.end told).single s (left_before s left)) };
  }

-- what was written may be said in other words
touched_map : {live lost : ℕ} {Written Other : ℕ → Sector → Type 0} {d e : Disk} → ((s : ℕ) (v : Sector) → Written s v → Other s v) → IsTouched live lost Written d e → IsTouched live lost Other d e
touched_map f t = record { two = t.two; values = λ s v held. ⊎_elim (λ there. inl there) (λ w. inr (f s v w)) (t.values s v held); gone = t.gone; others = t.others; elsewhere = t.elsewhere }

pub update-map : {tells : Type 0} {live lost0 lost : ℕ} {Written : ℕ → Sector → Type 0} {start : ℕ → ℕ → Sector} {old new : List Operation} (Other : ℕ → Sector → Type 0) → ((s : ℕ) (v : Sector) → Written s v → Other s v)
    → IsUpdate tells live lost0 lost Written start old new → IsUpdate tells live lost0 lost Other start old new
update-map {live = live} {lost0 = lost0} {lost = lost} {start = start} {old = old} Other f u = record {
  marks = each_mark-map (IsUpdating live lost0 lost Other (disk start old)) (λ told e at. record { touched = touched_map f at.touched; turn = at.turn; single = at.single }) u.marks;
  end = λ told. record { touched = touched_map f (u.end told).touched; single = (u.end told).single };
}

-- the losses of two stretches
pub losses-then : {live lost0 lost1 lost2 : ℕ} {a b c : ℕ → ℕ} → NeverFalls a b → NeverFalls b c → AreLosses live lost0 lost1 a b → AreLosses live lost1 lost2 b c → AreLosses live lost0 lost2 a c
losses-then {lost0 = lost0} {lost1 = lost1} {lost2 = lost2} {a = a} {b = b} {c = c} ab bc first second = record {
  stay = λ s is. second.stay s (first.stay s is);
  live = λ s is was. ⊎_elim (λ then. first.live s then was) (λ none. second.live s is none) (by_bool (has_slot lost1 s));
  failed = λ s is was. ⊎_elim (λ then. faulted_longer s a a b c (omega arith) (bc s) (ab s) (first.failed s then was)) (λ none. faulted_longer s a b c c (ab s) (omega arith) (bc s) (second.failed s is none)) (by_bool (has_slot lost1 s));
}

-- ---- a part of an update

due_is_live : (a b c : Bool) → (a && not b && c) ≡ true → a ≡ true
due_is_live true b c is = refl
due_is_live false true c is = is
due_is_live false false c is = is

due_is_left : (a b c : Bool) → (a && not b && c) ≡ true → b ≡ false
due_is_left a false c is = refl
due_is_left true true c is = absurd (cc)
due_is_left false true c is = absurd (cc)

is_all : (a b c : Bool) → a ≡ true → b ≡ false → c ≡ true → (a && not b && c) ≡ true
is_all a b c p q r = (λ j. p j && not (q j) && r j)

module _ {tells : Type 0} (start : ℕ → ℕ → Sector) (old new : List Operation) (part : Part) (newest newest0 : Sb) (gives : List Give) (own own0 : List (Option Sb)) (live lost lost0 lost' : ℕ) where
  pub part-update : IsLater newest0 newest → own ≡ own0 → lost ≡ lost0
      → EachMark tells start old new (IsWriting (plan_of newest gives own) (is_due part newest gives own live lost) (has_slot lost') (disk start old))
      → (tells → AreWritten (plan_of newest gives own) (is_due part newest gives own live lost) (has_slot lost') (disk start old) (disk start new))
      → IsUpdate tells live lost0 lost' (IsRecorded newest0 gives own0) start old new
  part-update later own_is lost_is marks written =
      subst (λ (o : List (Option Sb)). IsUpdate tells live lost0 lost' (IsRecorded newest0 gives o) start old new) own_is
      (subst (λ (l : ℕ). IsUpdate tells live l lost' (IsRecorded newest0 gives own) start old new) lost_is
      (pass-update (plan_of newest gives own) (is_due part newest gives own live lost) live lost lost' start old new (IsRecorded newest0 gives own) (λ s v p. (newest, later, p))
      (λ s is. due_is_live (has_slot live s) (has_slot lost s) (is_part part newest (give_of gives s) (own_in own s)) is)
      (λ s is. due_is_left (has_slot live s) (has_slot lost s) (is_part part newest (give_of gives s) (own_in own s)) is)
      marks written))

-- after a pass over a slot that wasn't lost, it holds what is planned
pub part-planned : {e d : Disk} (part : Part) (newest newest' : Sb) (gives : List Give) (own own' : List (Option Sb)) (live lost lost' : ℕ) → newest ≡ newest' → own ≡ own'
    → AreWritten (plan_of newest gives own) (is_due part newest gives own live lost) (has_slot lost') d e
    → (s : ℕ) → has_slot live s ≡ true → has_slot lost s ≡ false → is_part part newest (give_of gives s) (own_in own s) ≡ true → has_slot lost' s ≡ false
    → (v : Sector) × IsPlanned newest' (give_of gives s) (own_in own' s) v × (e s 8 ≡ v ∷ [])
part-planned {e = e} {d = d} part newest newest' gives own own' live lost lost' n o written s is left in_part left' =
    subst (λ (o : List (Option Sb)). (v : Sector) × IsPlanned newest' (give_of gives s) (own_in o s) v × (e s 8 ≡ v ∷ [])) o
    (subst (λ (m : Sb). (v : Sector) × IsPlanned m (give_of gives s) (own_in own s) v × (e s 8 ≡ v ∷ [])) n
    (subst (λ (b : Bool). IsWritten (plan_of newest gives own s) b (d s 8) (e s 8)) left'
    (written.written s (is_all (has_slot live s) (has_slot lost s) (is_part part newest (give_of gives s) (own_in own s)) is left in_part))))

pub stays_left : (lost lost' s : ℕ) → (has_slot lost s ≡ true → has_slot lost' s ≡ true) → has_slot lost' s ≡ false → has_slot lost s ≡ false
stays_left lost lost' s stay left = ⊎_elim (λ is. absurd (let both = sym (stay is) ∙ left in cc)) (λ none. none) (by_bool (has_slot lost s))

-- the slots that this part doesn't write hold what they held, at each mark
pub part-kept : {tells : Type 0} (part : Part) (newest : Sb) (gives : List Give) (own : List (Option Sb)) (live lost lost' : ℕ) (start : ℕ → ℕ → Sector) (old new : List Operation) (Kept' : ℕ → Type 0)
    → ((s : ℕ) → Kept' s → is_part part newest (give_of gives s) (own_in own s) ≡ false)
    → EachMark tells start old new (IsWriting (plan_of newest gives own) (is_due part newest gives own live lost) (has_slot lost') (disk start old))
    → EachMark tells start old new (λ e. (s : ℕ) → Kept' s → e s 8 ≡ disk start old s 8)
part-kept part newest gives own live lost lost' start old new Kept' none marks =
    each_mark-map (λ e. (s : ℕ) → Kept' s → e s 8 ≡ disk start old s 8)
    (λ _ e at s is. at.1.others s 8 (no_part (has_slot live s) (has_slot lost s) (is_part part newest (give_of gives s) (own_in own s)) (none s is))) marks
  where
    no_part : (a b c : Bool) → c ≡ false → (a && not b && c) ≡ false
    no_part true true c is = refl
    no_part true false c is = is
    no_part false b c is = refl

-- ---- an update in parts

pub later-then : (a b c : Sb) → IsLater a b → IsLater b c → IsLater a c
later-then a b c first second = record {
  events = omega (arith, first.events, second.events);
  same = second.same ∙ ap (λ (n : Sb). record n { events = c.events; dev_roles = c.dev_roles }) first.same;
}

-- the second of two stretches, by what the first began with
pub update-later : {tells : Type 0} (newest newest0 : Sb) (gives : List Give) (own own0 : List (Option Sb)) (live lost lost0 lost' : ℕ) (start : ℕ → ℕ → Sector) (old new : List Operation)
    → IsLater newest0 newest → own ≡ own0 → lost ≡ lost0
    → IsUpdate tells live lost lost' (IsRecorded newest gives own) start old new → IsUpdate tells live lost0 lost' (IsRecorded newest0 gives own0) start old new
update-later {tells = tells} newest newest0 gives own own0 live lost lost0 lost' start old new later own_is lost_is u =
    subst (λ (o : List (Option Sb)). IsUpdate tells live lost0 lost' (IsRecorded newest0 gives o) start old new) own_is
    (subst (λ (l : ℕ). IsUpdate tells live l lost' (IsRecorded newest0 gives own) start old new) lost_is
    (update-map (IsRecorded newest0 gives own) (λ s v w. (w.0, later-then newest0 newest w.0 later w.1, w.2)) u))

-- at the end of a call
pub each_mark-last : {tells : Type 0} {start : ℕ → ℕ → Sector} {old new : List Operation} {P : Disk → Type 0} → EachMark tells start old new P → tells → P (disk start new)
each_mark-last {start = start} {new = new} {P = P} marks told =
    subst (λ (l : List Operation). P (disk start l)) (take_all (length new) new (omega arith)) (marks.each told (length new) (marks.longer told) (omega arith))

-- sets of lost slots: one between two that are the same is the same
bit_same : (a b : ℕ) → a < 2 → b < 2 → (a == 1) ≡ (b == 1) → a ≡ b
bit_same zero zero la lb is = refl
bit_same zero (suc zero) la lb is = absurd (cc)
bit_same (suc zero) zero la lb is = absurd (cc)
bit_same (suc zero) (suc zero) la lb is = refl
bit_same (suc (suc a)) b la lb is = absurd (omega (arith, la))
bit_same zero (suc (suc b)) la lb is = absurd (omega (arith, lb))
bit_same (suc zero) (suc (suc b)) la lb is = absurd (omega (arith, lb))

pub between_same : (a b c : ℕ) → ((s : ℕ) → has_slot a s ≡ true → has_slot b s ≡ true) → ((s : ℕ) → has_slot b s ≡ true → has_slot c s ≡ true) → c ≡ a → b ≡ a
between_same a b c ab bc ca = same_from_bits b a (λ i. bit_same (bit_at b i) (bit_at a i) (bit_at-lt b i) (bit_at-lt a i)
    (⊎_elim (λ is. is ∙ sym (subst (λ (n : ℕ). has_slot n i ≡ true) ca (bc i is)))
    (λ none. none ∙ sym (stays_left a b i (ab i) none)) (by_bool (has_slot b i))))

-- first those with a recovery offset, then the others
pub in_order : {tells : Type 0} (newest : Sb) (gives : List Give) (own : List (Option Sb)) (live lost1 lost2 : ℕ) (start : ℕ → ℕ → Sector) (old mid new : List Operation)
    → ((s : ℕ) → has_slot lost1 s ≡ true → has_slot lost2 s ≡ true)
    → EachMark tells start old mid (AreOthersKept gives (disk start old)) → (tells → AreRecoveriesWritten newest gives own live lost1 (disk start mid))
    → EachMark tells start mid new (AreRecoveriesKept gives (disk start mid))
    → EachMark tells start old new (IsInOrder newest gives own live lost2 (disk start old))
in_order newest gives own live lost1 lost2 start old mid new stay first written then =
    each_mark-then (each_mark-map (IsInOrder newest gives own live lost2 (disk start old)) (λ _ e at. inl at) first)
    (each_mark-map (IsInOrder newest gives own live lost2 (disk start old))
    (λ told e at. inr (λ s is left recovery. let w = written told s is (stays_left lost1 lost2 s (stay s) left) recovery in (w.0, w.1, at s recovery ∙ w.2))) then)

-- both parts together are all live slots
pub both_planned : (newest0 newest2 newest' : Sb) (gives : List Give) (own0 own2 : List (Option Sb)) (live lost1 lost2 : ℕ) (start : ℕ → ℕ → Sector) (mid new : List Operation)
    → newest0 ≡ newest' → newest2 ≡ newest' → own2 ≡ own0 → ((s : ℕ) → has_slot lost1 s ≡ true → has_slot lost2 s ≡ true)
    → AreRecoveriesWritten newest0 gives own0 live lost1 (disk start mid)
    → AreRecoveriesKept gives (disk start mid) (disk start new)
    → ((s : ℕ) → has_slot live s ≡ true → has_slot lost2 s ≡ false → is_recovery (give_of gives s) ≡ false → (v : Sector) × IsPlanned newest2 (give_of gives s) (own_in own2 s) v × (disk start new s 8 ≡ v ∷ []))
    → ArePlanned newest' gives own0 live lost2 (disk start new)
both_planned newest0 newest2 newest' gives own0 own2 live lost1 lost2 start mid new n0 n2 o stay written kept others s is left = ⊎_elim
    (λ recovery.
    let w = written s is (stays_left lost1 lost2 s (stay s) left) recovery in
    (w.0, subst (λ (n : Sb). IsPlanned n (give_of gives s) (own_in own0 s) w.0) n0 w.1, kept s recovery ∙ w.2))
    (λ none.
    let w = others s is left none in
    (w.0, subst (λ (h : List (Option Sb)). IsPlanned newest' (give_of gives s) (own_in h s) w.0) o (subst (λ (n : Sb). IsPlanned n (give_of gives s) (own_in own2 s) w.0) n2 w.1), w.2))
    (by_bool (is_recovery (give_of gives s)))

-- nothing was done
pub update-none : {tells : Type 0} (live lost : ℕ) (Written : ℕ → Sector → Type 0) (start : ℕ → ℕ → Sector) (old : List Operation) → IsUpdate tells live lost lost Written start old old
update-none live lost Written start old = record {
  marks = subst (λ (l : List Operation). EachMark _ start old l (IsUpdating live lost lost Written (disk start old))) (append-nil old)
      (each_mark-along _ start old [] (IsUpdating live lost lost Written (disk start old)) (record { touched = same; turn = 0; single = λ s apart left. omega arith }));
  end = λ told. record { touched = same; single = λ s left. omega arith };
}
  where
    same : IsTouched live lost Written (disk start old) (disk start old)
    same = record { two = λ s. omega arith; values = λ s v held. inl held; gone = λ s k is. refl; others = λ s k is. refl; elsewhere = λ s k is. inl refl }

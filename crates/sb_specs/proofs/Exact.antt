-- What each mark of a part of an update leaves, by exactly what was planned.
use Rattle.std.proofs.Common.{◌≡◌, ◌⊎◌, inl, inr, ⊎_elim, ℕ, zero, suc, Bool, true, false, not, ◌&&◌, List, [], ◌∷◌, replicate, Option, refl, sym, ◌∙◌, subst, arith}
use Rattle.bank.specs.raid_types_Sectors.{Sector}
use Rattle.reshape_geometry.specs.raid_types_Shapes.{has_slot}
use Rattle.bank.specs.declared.bank.Operation.{Operation}
use Rattle.bank.specs.Tape.{IsIn, disk, EachMark}
use Rattle.bank.proofs.Laws.{kept_in}
use Rattle.sb_codec.specs.declared.sb.Sb.{Sb}
use Rattle.sb_specs.specs.declared.change.Give.{Give}
use Rattle.sb_specs.specs.declared.change.Give.TheVariants.{Same}
use Rattle.sb_specs.specs.declared.change.Part.{Part}
use Rattle.sb_specs.specs.declared.change.Part.TheVariants.{Behind}
use Rattle.sb_specs.specs.Update.{is_part, is_due, is_behind, is_recovery, give_of, own_in}
use Rattle.sb_specs.specs.Writing.{IsPlanned, IsWritten, IsWriting, AreWritten, plan_of}
use Rattle.sb_specs.specs.Updating.{IsTouched, IsUpdate, IsInOrder}
use Rattle.sb_specs.specs.Stages.{AreNinthKept, IsCatchingUp, IsTaking, IsLevelled, AreFirstKept, AreLeft}
use Rattle.sb_specs.proofs.ReadLists.{by_bool}
use Rattle.sb_specs.proofs.Updates.{pass-update, between_same}

abbrev Disk : Type 0
Disk = ℕ → ℕ → List Sector

due_is_live : (a b c : Bool) → (a && not b && c) ≡ true → a ≡ true
due_is_live true b c is = refl
due_is_live false true c is = is
due_is_live false false c is = is

due_is_left : (a b c : Bool) → (a && not b && c) ≡ true → b ≡ false
due_is_left a false c is = refl
due_is_left true true c is = absurd (cc)
due_is_left false true c is = absurd (cc)

pub due_of : (a b c : Bool) → (a && not b && c) ≡ true → c ≡ true
due_of true false c is = is
due_of true true c is = absurd (cc)
due_of false b c is = absurd (cc)

pub part-exact : {tells : Type 0} (start : ℕ → ℕ → Sector) (old new : List Operation) (part : Part) (newest : Sb) (gives : List Give) (own : List (Option Sb)) (live lost lost' : ℕ)
    → EachMark tells start old new (IsWriting (plan_of newest gives own) (is_due part newest gives own live lost) (has_slot lost') (disk start old))
    → (tells → AreWritten (plan_of newest gives own) (is_due part newest gives own live lost) (has_slot lost') (disk start old) (disk start new))
    → IsUpdate tells live lost lost' (plan_of newest gives own) start old new
part-exact start old new part newest gives own live lost lost' marks written =
    pass-update (plan_of newest gives own) (is_due part newest gives own live lost) live lost lost' start old new (plan_of newest gives own) (λ s v p. p)
    (λ s is. due_is_live (has_slot live s) (has_slot lost s) (is_part part newest (give_of gives s) (own_in own s)) is)
    (λ s is. due_is_left (has_slot live s) (has_slot lost s) (is_part part newest (give_of gives s) (own_in own s)) is)
    marks written

-- a list of one
pub alone : (v u : Sector) (P : Sector → Type 0) → P v → IsIn (v ∷ []) u → P u
alone v u P p (inl same) = subst P (sym same) p
alone v u P p (inr none) = absurd none

pub all_same : (n s : ℕ) → give_of (replicate n Same) s ≡ Same
all_same zero s = refl
all_same (suc n) zero = refl
all_same (suc n) (suc s) = all_same n s

-- ---- what a sector may hold

pub same_set : (a b : ℕ) → ((s : ℕ) → has_slot a s ≡ true → has_slot b s ≡ true) → ((s : ℕ) → has_slot b s ≡ true → has_slot a s ≡ true) → b ≡ a
same_set a b ab ba = between_same a b a ab ba refl

pub ninth_of : {live lost : ℕ} {Written : ℕ → Sector → Type 0} {d e : Disk} → IsTouched live lost Written d e → AreNinthKept d e
ninth_of {d = d} {e = e} t s v held = kept_in (d s 9) (e s 9) v (t.elsewhere s 9 (λ same. absurd (omega (arith, same)))) held

module _ (live lost left : ℕ) (are : AreLeft live lost left) where
  is_left : (s : ℕ) → has_slot live s ≡ true → has_slot lost s ≡ false → has_slot left s ≡ true
  is_left s is none = are s ∙ (λ i. is i && not (none i))

  pub left_live : (s : ℕ) → has_slot left s ≡ true → has_slot live s ≡ true
  left_live s is = first (has_slot live s) (has_slot lost s) (sym (are s) ∙ is)
    where
      first : (a b : Bool) → (a && not b) ≡ true → a ≡ true
      first true b e = refl
      first false b e = e

  pub left_not_lost : (s : ℕ) → has_slot left s ≡ true → has_slot lost s ≡ false
  left_not_lost s is = second (has_slot live s) (has_slot lost s) (sym (are s) ∙ is)
    where
      second : (a b : Bool) → (a && not b) ≡ true → b ≡ false
      second true true e = absurd (cc)
      second true false e = refl
      second false b e = absurd (cc)

  pub values_of : {Written : ℕ → Sector → Type 0} {d e : Disk} → IsTouched live lost Written d e → (s : ℕ) (v : Sector) → IsIn (e s 8) v
      → IsIn (d s 8) v ⊎ ((has_slot left s ≡ true) × Written s v)
  values_of {Written = Written} {d = d} {e = e} t s v held = ⊎_elim
      (λ is. ⊎_elim
      (λ gone. inl (subst (λ (l : List Sector). IsIn l v) (t.gone s 8 gone) held))
      (λ kept. ⊎_elim (λ there. inl there) (λ w. inr (is_left s is kept, w)) (t.values s v held))
      (by_bool (has_slot lost s)))
      (λ none. inl (subst (λ (l : List Sector). IsIn l v) (t.others s 8 none) held))
      (by_bool (has_slot live s))

  -- slots are brought to the newest count
  pub catching : (former : Sb) (own : List (Option Sb)) (d e : Disk) → IsTouched live lost (plan_of former (replicate 32 Same) own) d e → IsCatchingUp former own left d e
  catching former own d e t = record {
    values = λ s v held. ⊎_elim (λ there. inl there)
        (λ w. inr (w.0, subst (λ (g : Give). IsPlanned former g (own_in own s) v) (all_same 32 s) w.1)) (values_of t s v held);
    ninth = ninth_of t;
  }

  -- what is planned is written, first where a recovery offset is given
  pub taking : (newest : Sb) (gives : List Give) (own : List (Option Sb)) (lost' : ℕ) (d e : Disk) → AreFirstKept gives lost lost' → IsTouched live lost (plan_of newest gives own) d e
      → IsInOrder newest gives own live lost' d e → IsTaking newest gives own left d e
  taking newest gives own lost' d e first t order = record {
    values = λ s v held. ⊎_elim (λ there. inl there) (λ w. inr (w.0, w.1)) (values_of t s v held);
    order = ⊎_elim
        (λ others. inl (λ s v none held. subst (λ (l : List Sector). IsIn l v) (others s none) held))
        (λ written. inr (λ s v is recovery held.
        let w = written s (left_live s is) (not_lost s is recovery) recovery in
        alone w.0 v (λ (x : Sector). IsPlanned newest (give_of gives s) (own_in own s) x) w.1 (subst (λ (l : List Sector). IsIn l v) w.2 held)))
        order;
    ninth = ninth_of t;
  }
    where
      not_lost : (s : ℕ) → has_slot left s ≡ true → is_recovery (give_of gives s) ≡ true → has_slot lost' s ≡ false
      not_lost s is recovery = ⊎_elim (λ gone. absurd (let both = sym (first s recovery gone) ∙ left_not_lost s is in cc)) (λ none. none) (by_bool (has_slot lost' s))

-- after slots were brought to the newest count, one that wasn't lost is there
pub levelled : {d e : Disk} (former : Sb) (own : List (Option Sb)) (live lost lost' : ℕ) → ((s : ℕ) → has_slot lost s ≡ true → has_slot lost' s ≡ true)
    → AreWritten (plan_of former (replicate 32 Same) own) (is_due Behind former (replicate 32 Same) own live lost) (has_slot lost') d e
    → (s : ℕ) → has_slot live s ≡ true → has_slot lost' s ≡ false → IsLevelled former (own_in own s) (d s 8) (e s 8)
levelled {d = d} {e = e} former own live lost lost' stay written s is left v held = ⊎_elim
    (λ behind.
    let due : is_due Behind former (replicate 32 Same) own live lost s ≡ true = (λ i. is i && not (was_left i) && behind i) in
    let w = subst (λ (b : Bool). IsWritten (plan_of former (replicate 32 Same) own s) b (d s 8) (e s 8)) left (written.written s due) in
    let plan = alone w.0 v (λ (x : Sector). IsPlanned former (give_of (replicate 32 Same) s) (own_in own s) x) w.1 (subst (λ (l : List Sector). IsIn l v) w.2 held) in
    inr (subst (λ (g : Give). IsPlanned former g (own_in own s) v) (all_same 32 s) plan))
    (λ not_behind.
    let undue : is_due Behind former (replicate 32 Same) own live lost s ≡ false = (λ i. is i && not (was_left i) && not_behind i) in
    inl (not_behind, subst (λ (l : List Sector). IsIn l v) (written.others s 8 undue) held))
    (by_bool (is_behind former (own_in own s)))
  where
    was_left : has_slot lost s ≡ false
    was_left = ⊎_elim (λ gone. absurd (let both = sym (stay s gone) ∙ left in cc)) (λ none. none) (by_bool (has_slot lost s))

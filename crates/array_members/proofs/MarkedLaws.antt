-- What a mark leaves of an array whose roles are whole.
use Rattle.std.proofs.Common.{◌≡◌, ◌≢◌, inl, inr, ℕ, ◌≤◌, true, false, List, [], ◌∷◌, ◌++◌, length, take, drop, take_all, refl, sym, ◌∙◌, ap, arith}
use Rattle.std.proofs.lemmas.List.{take-append-drop}
use Rattle.std.specs.Prelude.{slice_index_or}
use Rattle.crash_role_laws.specs.raid_types_Sectors.{Sector}
use Rattle.crash_role_laws.specs.raid_types_Shapes.{has_slot}
use Rattle.crash_role_laws.specs.bank_Given.{Given}
use Rattle.crash_role_laws.specs.bank_Tape.{Contents, Kept, EachMark, disk, value_after}
use Rattle.crash_role_laws.specs.bank_the_Operation.{Operation}
use Rattle.crash_role_laws.proofs.bank_Laws.{choices-present}
use Rattle.crash_role_laws.specs.sb_specs_the_Members.{Members}
use Rattle.crash_role_laws.specs.sb_specs_Updating.{AreLosses, IsUpdate}
use Rattle.crash_role_laws.specs.stripe_row_Rows.{present}
use Rattle.crash_role_laws.specs.crash_safety_laws_Steady.{AreUnlost}
use Rattle.array_members.specs.Placed.{AreLess}
use Rattle.crash_role_laws.specs.crash_safety_laws_Marking.{AreOthersPresent}
use Rattle.array_members.specs.Moving.{Grows, AreFailed}

-- ---- the tape

pub grows-marks : {tells : Type 0} {start : Contents} {old new : List Operation} {P : (ℕ → ℕ → List Sector) → Type 0} → EachMark tells start old new P → Grows tells old new
grows-marks {old = old} {new = new} marks = record {
  more = λ told. (drop (length old) new, sym (take-append-drop (length old) new) ∙ ap (λ (l : List Operation). l ++ drop (length old) new) (marks.earlier told));
}

-- ---- the sectors

le_refl : (n : ℕ) → n ≤ n
le_refl n = omega arith

head-kept : (v w : Sector) (old now : List Sector) → take 1 old ≡ v ∷ [] → take 1 now ≡ w ∷ [] → Kept old now → w ≡ v
head-kept v w old now before after (inl same) = ap (λ (l : List Sector). slice_index_or l 0 []) (sym after ∙ ap (λ (l : List Sector). take 1 l) same ∙ before)
head-kept v w old now before after (inr first) = ap (λ (l : List Sector). slice_index_or l 0 []) (sym after ∙ ap (λ (l : List Sector). take 1 l) first ∙ twice old ∙ before)
  where
    twice : (l : List Sector) → take 1 (take 1 l) ≡ take 1 l
    twice [] = refl
    twice (x ∷ l) = refl

-- where no other sector has new values
pub others-of : (given : Given) (before after : List Operation) → ((s k : ℕ) → k ≢ 8 → Kept (disk given.start before s k) (disk given.start after s k)) → AreOthersPresent (present given before) (present given after)
others-of given before after kept s k other =
    head-kept (present given before s k) (present given after s k) (disk given.start before s k) (disk given.start after s k) (first before) (first after) (kept s k other)
  where
    first : (tape : List Operation) → take 1 (disk given.start tape s k) ≡ present given tape s k ∷ []
    first tape = choices-present s k (given.start s k) [] tape
        ∙ ap (λ (l : List Operation). value_after s k (given.start s k) l ∷ []) (sym (take_all (length tape) tape (le_refl (length tape))))

pub others-updated : {tells : Type 0} {live lost lost' : ℕ} {Written : ℕ → Sector → Type 0} (given : Given) {before after : List Operation} → IsUpdate tells live lost lost' Written given.start before after → tells
    → AreOthersPresent (present given before) (present given after)
others-updated given {before = before} {after = after} update told = others-of given before after (λ s k other. (update.end told).touched.elsewhere s k other)

-- ---- the members

pub failed-marked : (old new : Members) (set spares : ℕ) (before after : ℕ → ℕ) → AreUnlost old → AreLess new.lost old new → AreLosses set old.lost new.lost before after
    → ((slot : ℕ) → has_slot spares slot ≡ true → (has_slot new.lost slot ≡ true) × (has_slot old.lost slot ≡ false)) → AreFailed old new spares before after
failed-marked old new set spares before after unlost less losses are = record {
  less = less;
  held = λ role slot held gone. losses.failed slot gone (unlost role slot held);
  failed = λ slot has. losses.failed slot (are slot has).0 (are slot has).1;
}

-- ---- what was flushed
pub single-kept : (v : Sector) (old now : List Sector) → old ≡ v ∷ [] → Kept old now → now ≡ v ∷ []
single-kept v old now one (inl same) = same ∙ one
single-kept v old now one (inr first) = first ∙ ap (λ (l : List Sector). take 1 l) one

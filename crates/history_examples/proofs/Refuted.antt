-- How an example is refuted: an image that a stop may leave, and a sector of it that no entries allow.
use Rattle.std.proofs.Common.{◌≡◌, ◌⊎◌, ℕ, ◌<◌, ◌≤◌, inl, inr, Bool, true, false, ◌&&◌, ◌==◌, cond, List, [], ◌∷◌, length, get_or, take, refl, sym, subst, ◌∙◌, Option, Some, None}
use Rattle.history.specs.raid_types_the_Refusal.{Refusal}
use Rattle.history.specs.raid_types_the_Refusal_TheVariants.{DirtyDegraded, MembersMissing}
use Rattle.history.specs.raid_types_Sectors.{Sector}
use Rattle.history.specs.bank_the_Operation.{Operation}
use Rattle.history.specs.bank_the_Operation_TheVariants.{Write}
use Rattle.history.specs.bank_Tape.{Contents, IsImage, IsDrawn, IsIn, with_one, value_after, run}
use Rattle.history.proofs.bank_Images.{now-image, disk-some}
use Rattle.history.specs.declared.events.Entry.{Entry}
use Rattle.history.specs.World.{World, opening_list}
use Rattle.history.specs.Stands.{stands, verdict}
use Rattle.history.specs.Flat.{IsAllowed}
use Rattle.history.specs.CrashSafe.{made_by, may_be_made, last_resized, IsJudged, MayBeJudgedBy, StandsFor, IsRefusedRightly}

-- ---- images

-- before anything was done there is one image
pub drawn-start : (start : Contents) → IsDrawn (λ s k. start s k ∷ []) start
drawn-start start s k = inl refl

-- a write may be left out of an image, or be in it
pub drawn-without : (d : ℕ → ℕ → List Sector) (t j : ℕ) (w : Sector) (c : Contents) → IsDrawn d c → IsDrawn (run d (Write t j w ∷ [])) c
drawn-without d t j w c drawn s k = either ((t == s) && (j == k))
  where
    either : (b : Bool) → IsIn (cond b (w ∷ d s k) (d s k)) (c s k)
    either true = inr (drawn s k)
    either false = drawn s k

pub drawn-with : (d : ℕ → ℕ → List Sector) (t j : ℕ) (w : Sector) (c : Contents) → IsDrawn d c
    → IsDrawn (run d (Write t j w ∷ [])) (with_one (Write t j w) c)
drawn-with d t j w c drawn s k = either ((t == s) && (j == k))
  where
    either : (b : Bool) → IsIn (cond b (w ∷ d s k) (d s k)) (cond b w (c s k))
    either true = inl refl
    either false = drawn s k

-- what the slots hold in the end is an image there
pub present : Contents → List Operation → Contents
present start tape s k = value_after s k (start s k) tape

pub present-image : (start : Contents) (tape : List Operation) → IsImage start tape (length tape) (λ s k. value_after s k (start s k) tape)
present-image start tape = now-image start tape (λ s k. value_after s k (start s k) tape) (disk-some start tape)

-- ---- one sector

not-refused : (found : Option Refusal) (refusal : Refusal) → found ≡ None → found ≡ Some refusal → ⊥
not-refused found refusal none some = wrong (sym none ∙ some)
  where
    wrong : ◌≡◌ {A = Option Refusal} None (Some refusal) → ⊥
    wrong same = absurd (cc)

none-left_out : (found : Option ℕ) (place : ℕ) → found ≡ None → found ≡ Some place → ⊥
none-left_out found place none some = wrong (sym none ∙ some)
  where
    wrong : ◌≡◌ {A = Option ℕ} None (Some place) → ⊥
    wrong same = absurd (cc)

-- An image that assembles, and has a value that no entries allow, isn't judged.
pub not-judged : (world : World) (entries : List Entry) (mark x : ℕ) (c : Contents) (value : Sector)
    → verdict world.scope c ≡ None → last_resized (take (made_by mark entries) entries) ≡ None
    → x < length (stands world.scope c) → get_or (stands world.scope c) x [] ≡ value
    → ((j : ℕ) → made_by mark entries ≤ j → j ≤ may_be_made entries (made_by mark entries) → IsAllowed (opening_list world) (take j entries) x value → ⊥)
    → IsJudged world entries mark c → ⊥
not-judged world entries mark x c value assembles unresized within there not_allowed judged = by_kind judged.judgement
  where
    by_kind : ((by : List Entry) × MayBeJudgedBy world entries (made_by mark entries) judged.j by × StandsFor world by c)
        ⊎ IsRefusedRightly world entries (made_by mark entries) judged.j c → ⊥
    by_kind (inl (by, inl is, stood)) =
        not_allowed judged.j judged.made judged.running
        (subst (λ l. IsAllowed (opening_list world) l x value) is (subst (λ v. IsAllowed (opening_list world) by x v) there (stood.sectors x within)))
    by_kind (inl (by, inr out, stood)) = none-left_out (last_resized (take (made_by mark entries) entries)) out.0 unresized out.1.last
    by_kind (inr (inl dirty)) = not-refused (verdict world.scope c) (DirtyDegraded dirty.role) assembles dirty.refused
    by_kind (inr (inr missing)) = not-refused (verdict world.scope c) (MembersMissing missing.count missing.tolerance) assembles missing.refused

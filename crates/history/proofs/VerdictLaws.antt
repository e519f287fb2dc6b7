-- Where no role was ever taken, no image is refused.
use Rattle.std.proofs.Common.{◌≡◌, ◌≢◌, ◌⊎◌, inl, inr, ℕ, zero, suc, ◌+◌, ◌-◌, ◌*◌, ◌==◌, ◌<◌, ◌≤◌, Bool, true, false, not, ◌&&◌, ◌||◌, cond, List, [], ◌∷◌, take, drop, refl, ap, ap₂, ◌∙◌, subst, Option, Some, None, option_map, find, fold, ltb-true, arith}
use Rattle.std.specs.Option.{option_map_or, option_or}
use Rattle.std.specs.List.{list_all}
use Rattle.raid_types.specs.declared.places.Shape.{Shape}
use Rattle.raid_types.specs.declared.answers.Refusal.{Refusal}
use Rattle.raid_types.specs.declared.answers.Refusal.TheVariants.{NoSuperblock, Unsupported, BadField, TwoHolders, MembersMissing, DirtyDegraded, PositionNotOnUnit, BackupAbsent}
use Rattle.raid_types.specs.Shapes.{tolerance, is_multiple}
use Rattle.raid_types.specs.Search.{count_below, least_below}
use Rattle.sb_read_laws.specs.sb_codec_the_Sb.{Sb}
use Rattle.sb_read_laws.specs.sb_specs_Reading.{Scope, Reading, reading, shapes_in_force, is_clean, is_reshaping, role_count, list_length}
use Rattle.bank.specs.Tape.{Contents}
use Rattle.history.specs.declared.events.Event.{Event}
use Rattle.history.specs.declared.events.Event.TheVariants.{Lost, Step}
use Rattle.history.specs.declared.events.StepKind.TheVariants.{TakenOver}
use Rattle.history.specs.declared.events.Entry.{Entry}
use Rattle.history.specs.World.{World, reading_at}
use Rattle.history.specs.Losses.{takes, gone_surely, gone_perhaps, is_gone, gone_count}
use Rattle.sb_read_laws.specs.sb_specs_Verdict.{first_of_all, missing_count, too_many, members_missing, unsupported, bad_field, fresh_from, two_holders, shared_dev, dirty_degraded, off_unit, judged_fields, first_bad_entry, is_missing, holds_data, unit_of, members_refusal}
use Rattle.sb_read_laws.specs.sb_codec_Features.{refused_bits}
use Rattle.history.specs.Stands.{verdict, refusal_of, backup_absent, has_room, reach_of}
use Rattle.history.specs.CrashSafe.{made_by, IsJudged, IsRefusedRightly}
use Rattle.history.specs.Images.{keeps_roles, WithoutLossAllAssemble}

-- ---- a refusal for missing members tells more than are tolerated

-- one of these is this refusal
unfoldable pub IsAmong : List (Option Refusal) → Refusal → Type 0
IsAmong [] refusal = ⊥
IsAmong (found ∷ more) refusal = (found ≡ Some refusal) ⊎ IsAmong more refusal

pub first-among : (found : List (Option Refusal)) (refusal : Refusal) → first_of_all found ≡ Some refusal → IsAmong found refusal
unfolding IsAmong
first-among [] refusal e = absurd (cc)
first-among (Some one ∷ more) refusal e = inl e
first-among (None ∷ more) refusal e = inr (first-among more refusal e)

-- refusals of another kind
pub mapped-apart : {X : Type 0} (make : X → Refusal) (found : Option X) (refusal : Refusal) → ((x : X) → make x ≢ refusal)
    → option_map make found ≢ Some refusal
mapped-apart make None refusal apart e = absurd (cc)
mapped-apart make (Some x) refusal apart e = apart x (cc)

pub or-apart : (a b : Option Refusal) (refusal : Refusal) → a ≢ Some refusal → b ≢ Some refusal → option_or a b ≢ Some refusal
or-apart None b refusal left right e = right e
or-apart (Some x) b refusal left right e = left e

pub unless-apart : (test : Bool) (found : Option Refusal) (refusal : Refusal) → found ≢ Some refusal → cond test None found ≢ Some refusal
unless-apart true found refusal apart e = absurd (cc)
unless-apart false found refusal apart e = apart e

same-some : {X : Type 0} (a b : X) → Some a ≡ Some b → a ≡ b
same-some a b same = cc

find-passes : {X : Type 0} (test : X → Bool) (xs : List X) (x : X) → find test xs ≡ Some x → test x ≡ true
find-passes test [] x e = absurd (cc)
find-passes test (y ∷ xs) x e = by_test (test y) refl e (find-passes test xs x)
  where
    by_test : (b : Bool) → test y ≡ b → cond b (Some y) (find test xs) ≡ Some x → (find test xs ≡ Some x → test x ≡ true) → test x ≡ true
    by_test true is e more = subst (λ z. test z ≡ true) (same-some y x e) is
    by_test false is e more = more e

module _ (r : Reading) (count tolerated : ℕ) where
  by_shape : (found : Option Shape) → find (too_many r.roles) (shapes_in_force r.newest) ≡ found
      → option_map (λ shape. MembersMissing (missing_count r.roles shape) (tolerance shape)) found ≡ Some (MembersMissing count tolerated) → tolerated < count
  by_shape None is e = absurd (cc)
  by_shape (Some shape) is e =
      let above : tolerance shape < missing_count r.roles shape = ltb-true (tolerance shape) (missing_count r.roles shape) (find-passes (too_many r.roles) (shapes_in_force r.newest) shape is) in
      let many : missing_count r.roles shape ≡ count = cc in
      let few : tolerance shape ≡ tolerated = cc in
      omega arith

  missing-above : members_missing r.newest r.roles ≡ Some (MembersMissing count tolerated) → tolerated < count
  missing-above e = by_shape (find (too_many r.roles) (shapes_in_force r.newest)) refl e

pub or-either : (a b : Option Refusal) (refusal : Refusal) → option_or a b ≡ Some refusal → (a ≡ Some refusal) ⊎ (b ≡ Some refusal)
or-either None b refusal e = inr e
or-either (Some x) b refusal e = inl e

-- so does the verdict
module _ (scope : Scope) (count tolerated : ℕ) where
  abbrev judged : Refusal
  judged = MembersMissing count tolerated

  abbrev slots : Reading → List (Sb × ℕ)
  slots r = fresh_from r.newest scope.sizes.sectors 0 r.own

  abbrev refusals : Reading → List (Option Refusal)
  refusals r = unsupported (slots r) ∷ bad_field r.newest (slots r) ∷ two_holders (slots r)
      ∷ members_missing r.newest r.roles ∷ dirty_degraded r.newest r.roles ∷ off_unit r.newest ∷ []

  by_kind : (r : Reading) → IsAmong (refusals r) judged → tolerated < count
  unfolding IsAmong
  by_kind r (inl bits) = absurd (mapped-apart (λ s. Unsupported (refused_bits s.0.feature_map)) (find (λ s. not (refused_bits s.0.feature_map == 0)) (slots r)) judged (λ s e. absurd (cc)) bits)
  by_kind r (inr (inl field)) =
      absurd (or-apart (option_map (λ f. BadField f.0) (find (λ f. f.1) (judged_fields r.newest (slots r))))
      (option_map (λ index. BadField (256 + 2 * index)) (first_bad_entry r.newest (slots r))) judged
      (mapped-apart (λ f. BadField f.0) (find (λ f. f.1) (judged_fields r.newest (slots r))) judged (λ f e. absurd (cc)))
      (mapped-apart (λ index. BadField (256 + 2 * index)) (first_bad_entry r.newest (slots r)) judged (λ index e. absurd (cc))) field)
  by_kind r (inr (inr (inl two))) = absurd (mapped-apart (λ dev. TwoHolders dev) (shared_dev (slots r)) judged (λ dev e. absurd (cc)) two)
  by_kind r (inr (inr (inr (inl missing)))) = missing-above r count tolerated missing
  by_kind r (inr (inr (inr (inr (inl dirty))))) =
      absurd (unless-apart (is_clean r.newest) (option_map (λ role. DirtyDegraded role) (least_below (role_count r.newest) (λ role. is_missing r.roles role && holds_data r.newest role))) judged
      (mapped-apart (λ role. DirtyDegraded role) (least_below (role_count r.newest) (λ role. is_missing r.roles role && holds_data r.newest role)) judged (λ role e. absurd (cc))) dirty)
  by_kind r (inr (inr (inr (inr (inr (inl off)))))) =
      absurd (unless-apart (not (is_reshaping r.newest) || is_multiple r.newest.reshape_position (unit_of r.newest) || (r.newest.reshape_position == list_length r.newest))
      (Some (PositionNotOnUnit r.newest.reshape_position (unit_of r.newest))) judged (λ e. absurd (cc)) off)
  by_kind r (inr (inr (inr (inr (inr (inr none)))))) = absurd none

  by_reading : (found : Option Reading) → option_map_or (refusal_of scope) found (Some NoSuperblock) ≡ Some judged → tolerated < count
  by_reading None e = absurd (cc)
  by_reading (Some r) e = elim (or-either (members_refusal scope.sizes.sectors r) (backup_absent scope r.newest) judged e) [
    | inl member ↦ by_kind r (first-among (refusals r) judged member)
    | inr backup ↦ absurd (unless-apart (not (is_reshaping r.newest) || has_room scope (reach_of r.newest)) (Some BackupAbsent) judged (λ e. absurd (cc)) backup)
  ]

  refused-above : (c : Contents) → verdict scope c ≡ Some judged → tolerated < count
  unfolding verdict
  refused-above c e = by_reading (reading scope c) e

-- ---- no role is gone

takes-none : (found : Option Reading) (role : ℕ) (event : Event) → keeps_roles event ≡ true → takes found role event ≡ false
takes-none found role (Lost lost cause) keeps = absurd (cc)
takes-none found role (Step TakenOver left) keeps = absurd (cc)
takes-none found role event keeps = refl

both : (a b : Bool) → (a && b) ≡ true → (a ≡ true) × (b ≡ true)
both true b e = (refl, e)
both false b e = absurd (cc)

KeepRoles : List Entry → Type 0
KeepRoles entries = list_all (λ e. keeps_roles e.event) entries ≡ true

module _ (world : World) (role : ℕ) where
  surely-none : (entries : List Entry) → KeepRoles entries → fold (gone_surely world role) false entries ≡ false
  unfolding KeepRoles
  surely-none [] keep = refl
  surely-none (e ∷ entries) keep =
      let parts = both (keeps_roles e.event) (list_all (λ e. keeps_roles e.event) entries) keep in
      ap (λ b. fold (gone_surely world role) b entries) (takes-none (reading_at world e.end) role e.event parts.0) ∙ surely-none entries parts.1

  perhaps-none : (entries : List Entry) → KeepRoles entries → fold (gone_perhaps world role) false entries ≡ false
  unfolding KeepRoles
  perhaps-none [] keep = refl
  perhaps-none (e ∷ entries) keep =
      let parts = both (keeps_roles e.event) (list_all (λ e. keeps_roles e.event) entries) keep in
      ap (λ b. fold (gone_perhaps world role) b entries) (takes-none (reading_at world e.end) role e.event parts.0) ∙ perhaps-none entries parts.1

keep-first : (n : ℕ) (entries : List Entry) → KeepRoles entries → KeepRoles (take n entries)
unfolding KeepRoles
keep-first zero entries keep = refl
keep-first (suc n) [] keep = refl
keep-first (suc n) (e ∷ entries) keep =
    let parts = both (keeps_roles e.event) (list_all (λ e. keeps_roles e.event) entries) keep in
    ap₂ (λ a b. a && b) parts.0 (keep-first n entries parts.1)

keep-rest : (n : ℕ) (entries : List Entry) → KeepRoles entries → KeepRoles (drop n entries)
unfolding KeepRoles
keep-rest zero entries keep = keep
keep-rest (suc n) [] keep = refl
keep-rest (suc n) (e ∷ entries) keep = keep-rest n entries (both (keeps_roles e.event) (list_all (λ e. keeps_roles e.event) entries) keep).1

none-gone : (world : World) (entries : List Entry) (k j role : ℕ) → KeepRoles entries → is_gone world entries k j role ≡ false
unfolding is_gone
none-gone world entries k j role keep =
    ap (λ b. fold (gone_perhaps world role) b (take (j - k) (drop k entries))) (surely-none world role (take k entries) (keep-first k entries keep))
    ∙ perhaps-none world role (take (j - k) (drop k entries)) (keep-first (j - k) (drop k entries) (keep-rest k entries keep))

count-none : (n : ℕ) (test : ℕ → Bool) → ((i : ℕ) → test i ≡ false) → count_below n test ≡ 0
unfolding count_below
count-none zero test none = refl
count-none (suc n) test none = ap₂ (λ count b. count + cond b 1 0) (count-none n test none) (none n)

none-counted : (world : World) (entries : List Entry) (k j : ℕ) → KeepRoles entries → gone_count world entries k j ≡ 0
unfolding gone_count
none-counted world entries k j keep = count-none 32 (is_gone world entries k j) (λ role. none-gone world entries k j role keep)

pub all-assemble : WithoutLossAllAssemble
unfolding KeepRoles
all-assemble world entries mark c keep safe image = by_kind (safe c image)
  where
    contrary : {b : Bool} → b ≡ false → b ≡ true → ⊥
    contrary none is = absurd (cc)

    by_refusal : (k j : ℕ) → IsRefusedRightly world entries k j c → ⊥
    by_refusal k j (inl dirty) = contrary (none-gone world entries k j dirty.role keep) dirty.gone
    by_refusal k j (inr missing) =
        let none : gone_count world entries k j ≡ 0 = none-counted world entries k j keep in
        let above : missing.tolerance < missing.count = refused-above world.scope missing.count missing.tolerance c missing.refused in
        let few : missing.count ≤ gone_count world entries k j = missing.gone in
        absurd (omega (arith, none, above, few))

    by_kind : IsJudged world entries mark c → verdict world.scope c ≡ None
    by_kind judged = elim judged.judgement [
      | inl stood ↦ stood.2.assembles
      | inr refused ↦ absurd (by_refusal (made_by mark entries) judged.j refused)
    ]

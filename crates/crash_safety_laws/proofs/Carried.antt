-- Device numbers that are told stay so: where more is told, where a stop may leave less, and over an update of the superblocks.
use Rattle.std.proofs.Common.{◌≡◌, ◌⊎◌, inl, inr, ℕ, ◌≤◌, ◌||◌, ◌&&◌, Bool, true, false, not, nat_lt, List, ◌++◌, take, drop, length, length-append, Option, Some, None, replicate, refl, sym, ◌∙◌, ap, subst, arith}
use Rattle.std.proofs.lemmas.List.{length-take}
use Rattle.std.specs.Prelude.{bytes_eq}
use Rattle.crash_views.specs.raid_types_Sectors.{Sector}
use Rattle.crash_views.specs.raid_types_Shapes.{has_slot}
use Rattle.sb_update_laws.specs.sb_codec_the_Sb.{Sb}
use Rattle.sb_update_laws.specs.sb_codec_Superblock.{sb_of, checksum}
use Rattle.sb_update_laws.proofs.sb_codec_RoleTable.{length-two_by_two}
use Rattle.sb_update_laws.proofs.sb_codec_SuperblockLaws.{length-dev_roles}
use Rattle.crash_views.specs.bank_the_Operation.{Operation}
use Rattle.crash_views.specs.bank_Given.{Given}
use Rattle.crash_views.specs.bank_Tape.{IsIn, disk}
use Rattle.crash_views.proofs.bank_Laws.{kept_in}
use Rattle.crash_views.specs.sb_specs_the_Give.{Give}
use Rattle.crash_views.specs.sb_specs_the_Give_TheVariants.{Same}
use Rattle.crash_views.specs.sb_specs_the_Change.{Change}
use Rattle.crash_views.specs.sb_specs_the_Members.{Members}
use Rattle.crash_views.specs.sb_specs_Reading.{Scope, is_seen}
use Rattle.crash_views.specs.sb_specs_Update.{planned, give_of, own_in, is_live, is_added}
use Rattle.crash_views.specs.sb_specs_Writing.{IsFirstSector, IsPlanned}
use Rattle.crash_views.specs.sb_specs_Updating.{IsTouched, IsUpdate, IsWrittenBy}
use Rattle.crash_views.specs.sb_specs_Outcome.{is_in_update, live_set, IsPlannedOwn, AreStored}
use Rattle.crash_views.specs.sb_specs_Held.{MayRead, IsSecondHalf, IsKnown}
use Rattle.crash_views.proofs.sb_specs_PlannedSb.{planned-of}
use Rattle.crash_views.proofs.sb_specs_SlotSets.{has-set_of}
use Rattle.crash_views.proofs.sb_specs_WrittenReads.{planned-stamped}
use Rattle.crash_safety_laws.specs.Marking.{marking}
use Rattle.crash_safety_laws.specs.Rounds.{IsHeldSince}
use Rattle.crash_safety_laws.specs.Carried.{AreCarried, BearsOwn, AreToldAnew}
use Rattle.crash_safety_laws.proofs.Without.{in-both, live-before}

abbrev Disk : Type 0
Disk = ℕ → ℕ → List Sector

-- ---- more that is told, and less that a stop may leave

pub carried-more : (scope : Scope) (told more : ℕ → ℕ → Bool) (own : List (Option Sb)) (d : Disk) → ((slot number : ℕ) → told slot number ≡ true → more slot number ≡ true) → AreCarried scope told own d → AreCarried scope more own d
carried-more scope told more own d still are = record {
  kept = λ slot sb is. still slot sb.dev_number (are.kept slot sb is);
  shown = λ slot sb may. still slot sb.dev_number (are.shown slot sb may);
}

pub carried-fewer : (scope : Scope) (told : ℕ → ℕ → Bool) (own : List (Option Sb)) (d e : Disk) → ((s : ℕ) (v : Sector) → IsIn (e s 8) v → IsIn (d s 8) v) → ((s : ℕ) (v : Sector) → IsIn (e s 9) v → IsIn (d s 9) v)
    → AreCarried scope told own d → AreCarried scope told own e
carried-fewer scope told own d e eighth ninth are = record {
  kept = are.kept;
  shown = λ slot sb may. are.shown slot sb (record { at = may.at; eighth = eighth slot (may.at 8) may.eighth; ninth = ninth slot (may.at 9) may.ninth; is = may.is });
}

-- ---- a superblock that an update wrote

-- its newest one has all entries, since what was written has
table-long : (later own : Sb) (g : Give) (v w : Sector) → IsFirstSector (planned later g own) v → IsSecondHalf own w → 128 ≤ length later.dev_roles
table-long later own g v w first half =
    let behind : length (drop 128 own.dev_roles) ≡ 256 = ap length (sym half.entries) ∙ length-two_by_two 256 w half.long in
    let all : length (take 128 later.dev_roles ++ drop 128 own.dev_roles) ≡ 384 =
    ap length (sym (planned-of later own g).roles) ∙ sym (ap (λ (sb : Sb). length sb.dev_roles) first.fields) ∙ length-dev_roles first.bytes first.long in
    omega (arith, behind, all, length-append (take 128 later.dev_roles) (drop 128 own.dev_roles), length-take 128 later.dev_roles)

-- A slot that is written: each second sector that it may have is that of the superblock that is kept of it.
pub record IsRewritable (scope : Scope) (held : Option Sb) (slot : ℕ) (d : Disk) : Type 0 where
  pub seen : is_seen scope slot ≡ true
  pub long : 10 ≤ scope.sizes.sectors slot
  pub array : (own : Sb) → held ≡ Some own → bytes_eq own.set_uuid scope.uuid ≡ true
  pub second : (own : Sb) (sector : Sector) → held ≡ Some own → IsIn (d slot 9) sector → IsSecondHalf own sector

some-same : (a b : Sb) → ◌≡◌ {A = Option Sb} (Some a) (Some b) → a ≡ b
some-same a b e = cc

-- it bears the number of that one
number-planned : (scope : Scope) (slot : ℕ) (d e : Disk) (held : Option Sb) (later own sb : Sb) (g : Give) → held ≡ Some own → IsRewritable scope held slot d
    → (may : MayRead scope e slot (Some sb)) → IsIn (d slot 9) (may.at 9) → IsFirstSector (planned later g own) (may.at 8) → sb.dev_number ≡ own.dev_number
number-planned scope slot d e held later own sb g is rewritable may ninth first =
    let half = rewritable.second own (may.at 9) is ninth in
    let stamped = planned-stamped scope slot later own g may.at rewritable.seen rewritable.long (rewritable.array own is) (table-long later own g (may.at 8) (may.at 9) first half) half first in
    ap (λ (x : Sb). x.dev_number) (some-same sb (record (planned later g own) { sb_csum = stamped.0 }) (sym may.is ∙ stamped.1)) ∙ (planned-of later own g).number

-- ---- an update, by what it touched

module _ (scope : Scope) (told : ℕ → ℕ → Bool) (former newest : Sb) (change : Change) (old new : List (Option Sb)) (live lost : ℕ) (left : ℕ → Bool) (d e : Disk) where
  -- what a slot may show that was written
  shown-planned : AreCarried scope told old d → (slot : ℕ) (sb later : Sb) (g : Give) → IsRewritable scope (own_in old slot) slot d → (may : MayRead scope e slot (Some sb)) → IsIn (d slot 9) (may.at 9)
      → IsPlanned later g (own_in old slot) (may.at 8) → told slot sb.dev_number ≡ true
  shown-planned are slot sb later g rewritable may ninth = of (own_in old slot) refl
    where
      of : (held : Option Sb) → own_in old slot ≡ held → IsPlanned later g held (may.at 8) → told slot sb.dev_number ≡ true
      of None is plan = absurd plan
      of (Some own) is plan = ap (told slot) (number-planned scope slot d e (own_in old slot) later own sb g is rewritable may ninth plan) ∙ are.kept slot own is

  -- what was stored bears the number of the former one
  stored-number : AreStored newest change.gives left old new → AreCarried scope told old d → (slot : ℕ) (sb : Sb) → own_in new slot ≡ Some sb → told slot sb.dev_number ≡ true
  stored-number stored are slot sb is = by (left slot) refl
    where
      of : (held : Option Sb) → own_in old slot ≡ held → IsPlannedOwn newest (give_of change.gives slot) held (own_in new slot) → told slot sb.dev_number ≡ true
      of None was plan = absurd plan
      of (Some own) was plan =
          let same : sb ≡ record (planned newest (give_of change.gives slot) own) { sb_csum = checksum plan.bytes } = some-same sb (sb_of plan.bytes) (sym is ∙ plan.own) ∙ plan.fields in
          ap (told slot) (ap (λ (x : Sb). x.dev_number) same ∙ (planned-of newest own (give_of change.gives slot)).number) ∙ are.kept slot own was

      by : (b : Bool) → left slot ≡ b → told slot sb.dev_number ≡ true
      by true here = of (own_in old slot) refl (stored.written slot here)
      by false there = are.kept slot sb (sym (stored.others slot there) ∙ is)

  -- Where each slot that it may write is rewritable, each number stays told.
  pub numbers-touched : IsTouched live lost (IsWrittenBy former change old) d e → AreStored newest change.gives left old new
      → ((s : ℕ) → has_slot live s ≡ true → has_slot lost s ≡ false → IsRewritable scope (own_in old s) s d) → AreCarried scope told old d → AreCarried scope told new e
  numbers-touched touched stored rewritable are = record { kept = stored-number stored are; shown = shown }
    where
      was-ninth : (s : ℕ) (v : Sector) → IsIn (e s 9) v → IsIn (d s 9) v
      was-ninth s v may = kept_in (d s 9) (e s 9) v (touched.elsewhere s 9 (λ is. absurd (omega (arith, is)))) may

      shown : (slot : ℕ) (sb : Sb) → MayRead scope e slot (Some sb) → told slot sb.dev_number ≡ true
      shown slot sb may = by (touched.values slot (may.at 8) may.eighth)
        where
          former-one : IsIn (d slot 8) (may.at 8) → told slot sb.dev_number ≡ true
          former-one eighth = are.shown slot sb (record { at = may.at; eighth = eighth; ninth = was-ninth slot (may.at 9) may.ninth; is = may.is })

          of : (a b : Bool) → has_slot live slot ≡ a → has_slot lost slot ≡ b → IsWrittenBy former change old slot (may.at 8) → told slot sb.dev_number ≡ true
          of false b dead is written = former-one (subst (λ (l : List Sector). IsIn l (may.at 8)) (touched.others slot 8 dead) may.eighth)
          of true true alive gone written = former-one (subst (λ (l : List Sector). IsIn l (may.at 8)) (touched.gone slot 8 gone) may.eighth)
          of true false alive there (inl recorded) =
              shown-planned are slot sb recorded.0 (give_of (replicate 32 Same) slot) (rewritable slot alive there) may (was-ninth slot (may.at 9) may.ninth) recorded.2
          of true false alive there (inr recorded) =
              shown-planned are slot sb recorded.0 (give_of change.gives slot) (rewritable slot alive there) may (was-ninth slot (may.at 9) may.ninth) recorded.2

          by : IsIn (d slot 8) (may.at 8) ⊎ IsWrittenBy former change old slot (may.at 8) → told slot sb.dev_number ≡ true
          by (inl eighth) = former-one eighth
          by (inr written) = of (has_slot live slot) (has_slot lost slot) refl refl written

-- ---- an update that adds no slot

-- a slot whose superblock is known
pub known-rewritable : (scope : Scope) (newest : Sb) (held : Option Sb) (slot : ℕ) (d : Disk) → IsKnown scope newest held slot d → IsRewritable scope held slot d
known-rewritable scope newest held slot d known = record {
  seen = known.seen;
  long = known.long;
  array = λ own is. subst (λ (sb : Sb). bytes_eq sb.set_uuid scope.uuid ≡ true) (some-same known.sb own (sym known.own ∙ is)) known.array;
  second = λ own sector is may. subst (λ (sb : Sb). IsSecondHalf sb sector) (some-same known.sb own (sym known.own ∙ is)) (known.second sector may);
}

-- each slot that it writes, but for one that it adds, is live in a mark too
live-marking : (members : Members) (change : Change) (s : ℕ) → is_added change.added s ≡ false → has_slot (live_set members change) s ≡ has_slot (live_set members (marking members false)) s
live-marking members change s none =
    has-set_of 32 (is_in_update members change) s ∙ ap (λ (added : Bool). nat_lt s 32 && (is_live members.roles members.spares s || added)) none
    ∙ sym (has-set_of 32 (is_in_update members (marking members false)) s)

-- and known, where it wasn't lost
pub live-known : (scope : Scope) (former members : Members) (change : Change) (d : Disk) (s : ℕ) → is_added change.added s ≡ false → IsHeldSince scope former members d
    → has_slot (live_set members change) s ≡ true → has_slot members.lost s ≡ false → IsKnown scope former.newest (own_in former.own s) s d
live-known scope former members change d s none since live there =
    since.held.updated.held.each s (since.held.live s ∙ (λ i. alive i && not (left i)))
  where
    first : (a b : Bool) → (a || b) ≡ false → a ≡ false
    first false b e = refl
    first true b e = e

    left : has_slot former.lost s ≡ false
    left = first (has_slot former.lost s) (has_slot since.gone s) (sym (in-both former.lost since.gone s) ∙ ap (λ (m : Members). has_slot m.lost s) (sym since.since) ∙ there)

    alive : has_slot (live_set former (marking former false)) s ≡ true
    alive = live-before former since.gone false s
        (ap (λ (m : Members). has_slot (live_set m (marking m false)) s) (sym since.since) ∙ sym (live-marking members change s none) ∙ live)

-- Each number stays told over such an update.
pub numbers-updated : {tells : Type 0} (scope : Scope) (given : Given) (told : ℕ → ℕ → Bool) (former members new : Members) (change : Change) (newest : Sb) (lost : ℕ) (left : ℕ → Bool) (before after : List Operation)
    → tells → change.added ≡ None → IsUpdate tells (live_set members change) members.lost lost (IsWrittenBy members.newest change members.own) given.start before after
    → AreStored newest change.gives left members.own new.own → IsHeldSince scope former members (disk given.start before)
    → AreCarried scope told former.own (disk given.start before) → AreCarried scope told new.own (disk given.start after)
numbers-updated scope given told former members new change newest lost left before after tell none update stored since are =
    numbers-touched scope told members.newest newest change members.own new.own (live_set members change) members.lost left (disk given.start before) (disk given.start after)
    (update.end tell).touched stored
    (λ s live there. known-rewritable scope former.newest (own_in members.own s) s (disk given.start before)
    (subst (λ (own : List (Option Sb)). IsKnown scope former.newest (own_in own s) s (disk given.start before)) (sym own-same)
    (live-known scope former members change (disk given.start before) s (ap (λ (added : Option (ℕ × Sb)). is_added added s) none) since live there)))
    (subst (λ (own : List (Option Sb)). AreCarried scope told own (disk given.start before)) (sym own-same) are)
  where
    own-same : members.own ≡ former.own
    own-same = ap (λ (m : Members). m.own) since.since

-- ---- numbers that are told anew

-- a live slot shows the number of its kept superblock alone
pub carried-anew : (scope : Scope) (told more : ℕ → ℕ → Bool) (former members : Members) (d : Disk) → IsHeldSince scope former members d → AreToldAnew members told more
    → AreCarried scope told former.own d → AreCarried scope more former.own d
carried-anew scope told more former members d since anew are = record { kept = kept; shown = shown }
  where
    own-same : members.own ≡ former.own
    own-same = ap (λ (m : Members). m.own) since.since

    kept : (slot : ℕ) (sb : Sb) → own_in former.own slot ≡ Some sb → more slot sb.dev_number ≡ true
    kept slot sb is = elim (anew slot) [
      | inl keeps ↦ keeps sb.dev_number (are.kept slot sb is)
      | inr own ↦ own.own sb ((λ i. own_in (own-same i) slot) ∙ is)
    ]

    shown : (slot : ℕ) (sb : Sb) → MayRead scope d slot (Some sb) → more slot sb.dev_number ≡ true
    shown slot sb may = elim (anew slot) [
      | inl keeps ↦ keeps sb.dev_number (are.shown slot sb may)
      | inr own ↦ by own (live-known scope former members (marking members false) d slot refl since own.live own.there)
    ]
      where
        by : BearsOwn members more slot → IsKnown scope former.newest (own_in former.own slot) slot d → more slot sb.dev_number ≡ true
        by own known =
            let (before, stamped, is) = known.reads (Some sb) may in
            let same : sb ≡ record before { sb_csum = stamped.0 } = some-same sb (record before { sb_csum = stamped.0 }) stamped.1 in
            ap (more slot) (ap (λ (x : Sb). x.dev_number) same ∙ is.number) ∙ own.own known.sb ((λ i. own_in (own-same i) slot) ∙ known.own)

-- A view through the calls on the backup.
use Rattle.std.proofs.Common.{◌≡◌, ◌≢◌, ◌⊎◌, inl, inr, ℕ, ◌+◌, ◌-◌, ◌/◌, ◌<◌, ◌≤◌, ◌&&◌, nat_le, Bool, true, false, cond, List, [], ◌∷◌, length, take, Option, Some, None, refl, sym, ◌∙◌, ap, subst, arith}
use Rattle.std.proofs.lemmas.Bool.{and_parts, cases_eq, cases_lt}
use Rattle.std.proofs.lemmas.Bool.Decides.{nat_tests}
use Rattle.history.specs.raid_types_the_Span.{Span}
use Rattle.history.specs.raid_types_Sectors.{Sector}
use Rattle.history.specs.raid_types_Shapes.{has_slot}
use Rattle.history.specs.bank_Tape.{IsIn, Kept, run}
use Rattle.history.specs.bank_the_Operation_TheVariants.{Write}
use Rattle.history.proofs.bank_Laws.{kept_in}
use Rattle.history.specs.sb_codec_the_Sb.{Sb}
use Rattle.history.specs.sb_specs_Reading.{Scope, next_window}
use Rattle.history.specs.ActiveSection.{section_for}
use Rattle.history.specs.bank_backup_Section.{is_header_of, names_span, has_section}
use Rattle.history.specs.bank_backup_Written.{header_of, cleared_header, IsHeaderFor}
use Rattle.history.specs.bank_backup_Storing as backup
use Rattle.history.specs.bank_backup_Storing.{nth_sector, IsSectionAlone}
use Rattle.history.proofs.bank_backup_StoringLaws.{wrote-beside, wrote-here}
use Rattle.history.proofs.bank_backup_WrittenLaws.{headers-named, cleared-none}
use Rattle.crash_views.specs.Regions.{backup_of, open_by}
use Rattle.crash_views.specs.Views.{Disk, IsHeaderFit, IsViewRight}
use Rattle.crash_views.specs.Windows.{IsSomewhere, IsStoring}
use Rattle.crash_views.specs.Backups.{SectionsStayRight, ClearingStaysRight, NamedSectionsAreOpen, ClearedHeadersAreShut, StoredIsClosed, NamingIsUnsure, NamedIsOpen, ClearedIsClosed, FoundIsOpen}
use Rattle.crash_views.proofs.Headers.{backup-is, own-header}
use Rattle.crash_views.proofs.WindowLaws.{fewer-right, storing-right, naming-right}

-- ---- which section is open

-- it is the next window's
open-next : (scope : Scope) (newest : Sb) (header : Sector) (span other : Span) → next_window newest ≡ Some span → open_by scope newest header ≡ Some other → other ≡ span
open-next scope newest header span other next opened = of scope.backup (sym (ap (section_for scope (λ s k. header) scope.backup) next) ∙ opened)
  where
    chosen : (t : Bool) → ◌≡◌ {A = Option Span} (cond t (Some span) None) (Some other) → other ≡ span
    chosen true is = cc
    chosen false is = absurd (cc)

    of : (b : Option ℕ) → section_for scope (λ s k. header) b (Some span) ≡ Some other → other ≡ span
    of None is = absurd (cc)
    of (Some b) is = chosen (has_slot scope.given b && has_section scope.uuid (scope.sizes.sectors b) (λ k. header) span) is

pub named-open : NamedSectionsAreOpen
named-open scope newest slot span backup there sixteen next filled small room =
    (λ i. section_for scope (λ s k. header_of scope.uuid span) (backup i) (next i))
    ∙ ap (λ (t : Bool). cond t (Some span) None) (all (has_slot scope.given slot) (is_header_of scope.uuid (header_of scope.uuid span)) (names_span (header_of scope.uuid span) span)
    (nat_le (8 + (span.hi - span.lo)) (scope.sizes.sectors slot)) there says.own says.named (grind (arith, nat_tests)))
  where
    says : IsHeaderFor scope.uuid span (header_of scope.uuid span)
    says = headers-named scope.uuid span sixteen filled small

    all : (s a b t : Bool) → s ≡ true → a ≡ true → b ≡ true → t ≡ true → (s && (a && b && t)) ≡ true
    all true true true true zero one two three = refl
    all false a b t zero one two three = zero
    all true false b t zero one two three = one
    all true true false t zero one two three = two
    all true true true false zero one two three = three

pub cleared-shut : ClearedHeadersAreShut
cleared-shut scope newest sixteen = of scope.backup (next_window newest)
  where
    none : (s a b t : Bool) (span : Span) → b ≡ false → ◌≡◌ {A = Option Span} (cond (s && (a && b && t)) (Some span) None) None
    none false a b t span is = refl
    none true false b t span is = refl
    none true true false t span is = refl
    none true true true t span is = absurd (cc)

    of : (b : Option ℕ) (w : Option Span) → section_for scope (λ s k. cleared_header scope.uuid) b w ≡ None
    of None w = refl
    of (Some b) None = refl
    of (Some b) (Some span) = none (has_slot scope.given b) (is_header_of scope.uuid (cleared_header scope.uuid)) (names_span (cleared_header scope.uuid) span)
        (nat_le (8 + (span.hi - span.lo)) (scope.sizes.sectors b)) span (cleared-none scope.uuid span sixteen)

-- ---- a section is stored and named

some-kept : (old now : List Sector) → ((v : Sector) × IsIn old v) → Kept old now → (v : Sector) × IsIn now v
some-kept old now some (inl same) = (some.0, subst (λ (l : List Sector). IsIn l some.0) (sym same) some.1)
some-kept old now some (inr one) = of old some one
  where
    of : (l : List Sector) → ((v : Sector) × IsIn l v) → now ≡ take 1 l → (v : Sector) × IsIn now v
    of [] held is = absurd held.1
    of (x ∷ l) held is = (x, subst (λ (m : List Sector). IsIn m x) (sym is) (inl refl))

module _ (scope : Scope) (slot : ℕ) (there : scope.backup ≡ Some slot) where
  module _ (bytes : List ℕ) (d e : Disk) (storing : backup.IsStoring slot bytes d e) where
    -- it is a section's sectors being stored
    stored-is : IsStoring scope d e
    stored-is s k = elim (cases_eq s slot) [
      | inl same ↦ elim (cases_eq k 0) [
        | inl zero ↦ inl (λ v held. subst (λ (a : ℕ). IsIn (d a k) v) (sym same) (subst (λ (b : ℕ). IsIn (d slot b) v) (sym zero)
            (kept_in (d slot 0) (e slot 0) v storing.header_is (subst (λ (b : ℕ). IsIn (e slot b) v) zero (subst (λ (a : ℕ). IsIn (e a k) v) same held)))))
        | inr other ↦ inr (there ∙ ap (λ (a : ℕ). Some a) (sym same), other)
      ]
      | inr other ↦ inl (λ v held. subst (λ (l : List Sector). IsIn l v) (storing.others s k other) held)
    ]

    some-stored : IsSectionAlone slot bytes e → IsSomewhere d → IsSomewhere e
    some-stored alone some s k = elim (cases_eq s slot) [
      | inl same ↦ subst (λ (a : ℕ). (v : Sector) × IsIn (e a k) v) (sym same) (here k)
      | inr other ↦ subst (λ (l : List Sector). (v : Sector) × IsIn l v) (sym (storing.others s k other)) (some s k)
    ]
      where
        inside : (b : ℕ) → 8 ≤ b → b < 8 + length bytes / 512 → (v : Sector) × IsIn (e slot b) v
        inside b low high =
            let place : 8 + (b - 8) ≡ b = omega (arith, low) in
            subst (λ (a : ℕ). (v : Sector) × IsIn (e slot a) v) place
            (nth_sector bytes (b - 8), subst (λ (l : List Sector). IsIn l (nth_sector bytes (b - 8))) (sym (alone (b - 8) (omega (arith, low, high)))) (inl refl))

        here : (b : ℕ) → (v : Sector) × IsIn (e slot b) v
        here b = elim (cases_lt b 8) [
          | inl low ↦ some-kept (d slot b) (e slot b) (some slot b) (storing.outside b (inl low))
          | inr from ↦ elim (cases_lt b (8 + length bytes / 512)) [
            | inl high ↦ inside b from high
            | inr past ↦ some-kept (d slot b) (e slot b) (some slot b) (storing.outside b (inr past))
          ]
        ]

pub sections-right : (sound : Type 0) → SectionsStayRight sound
sections-right sound scope given told m slot span bytes d e there sixteen some none section (inl storing) right =
    storing-right sound scope given told m d e some none (stored-is scope slot there bytes d e storing) right
sections-right sound scope given told m slot span bytes d e there sixteen some none section (inr naming) right =
    let b = backup-is scope slot there in
    let somewhere : IsSomewhere naming.mid = some-stored scope slot there bytes d naming.mid naming.stored naming.section some in
    let stored : IsViewRight sound scope given told m naming.mid = storing-right sound scope given told m d naming.mid some none (stored-is scope slot there bytes d naming.mid naming.stored) right in
    let plain = somewhere (backup_of scope) 0 in
    let before : IsIn (d (backup_of scope) 0) plain.0 = subst (λ (a : ℕ). IsIn (d a 0) plain.0) (sym b)
    (kept_in (d slot 0) (naming.mid slot 0) plain.0 naming.stored.header_is (subst (λ (a : ℕ). IsIn (naming.mid a 0) plain.0) b plain.1)) in
    naming-right sound scope given told m (header_of scope.uuid span) plain.0 naming.mid e somewhere plain.1 (none plain.0 before)
    (λ other opened x low high v held. allowed b other (open-next scope m.newest (header_of scope.uuid span) span other section.next opened) x low high v held)
    (λ active premise. own-header scope m.newest right.placed.fit span section.next sixteen)
    (record {
      header_is = λ v held. subst (λ (a : ℕ). IsIn (naming.mid a 0) v ⊎ (v ≡ header_of scope.uuid span)) (sym b) (naming.header_is v (subst (λ (a : ℕ). IsIn (e a 0) v) b held));
      others = λ s k apart. naming.beside s k (subst (λ (a : ℕ). (s ≢ a) ⊎ (k ≢ 0)) b apart);
    }) stored
  where
    one : (l : List Sector) (v w : Sector) → l ≡ w ∷ [] → IsIn l v → v ≡ w
    one l v w is held = of (subst (λ (a : List Sector). IsIn a v) is held)
      where
        of : IsIn (w ∷ []) v → v ≡ w
        of (inl same) = same
        of (inr none) = absurd none

    allowed : backup_of scope ≡ slot → (other : Span) → other ≡ span → (x : ℕ) → other.lo ≤ x → x < other.hi → (v : Sector) → IsIn (naming.mid (backup_of scope) (8 + (x - other.lo))) v → IsIn (told.values x) v
    allowed b other same x low high v held =
        let lo : other.lo ≡ span.lo = ap (λ (s : Span). s.lo) same in
        let hi : other.hi ≡ span.hi = ap (λ (s : Span). s.hi) same in
        let low' : span.lo ≤ x = omega (arith, lo, low) in
        let high' : x < span.hi = omega (arith, hi, high) in
        let held' : IsIn (naming.mid slot (8 + (x - span.lo))) v = subst (λ (a : ℕ). IsIn (naming.mid slot (8 + (x - a))) v) lo (subst (λ (a : ℕ). IsIn (naming.mid a (8 + (x - other.lo))) v) b held) in
        let size = section.size in
        let is : v ≡ nth_sector bytes (x - span.lo) =
        one (naming.mid slot (8 + (x - span.lo))) v (nth_sector bytes (x - span.lo)) (naming.section (x - span.lo) (omega (arith, low', high', size))) held' in
        subst (λ (w : Sector). IsIn (told.values x) w) (sym is) (section.allowed x low' high')

-- ---- a header is written

-- a cleared one fits: it names no section
cleared-fit : (scope : Scope) (newest : Sb) → length scope.uuid ≡ 16 → IsHeaderFit scope newest (cleared_header scope.uuid)
cleared-fit scope newest sixteen span is = absurd (let named = (and_parts (is_header_of scope.uuid (cleared_header scope.uuid)) (names_span (cleared_header scope.uuid) span) is).1 in let none = cleared-none scope.uuid span sixteen in let clash = sym none ∙ named in cc)

pub clearing-right : (sound : Type 0) → ClearingStaysRight sound
clearing-right sound scope given told m slot plain d e there sixteen some held shut heading right =
    let b = backup-is scope slot there in
    let header : Sector = cleared_header scope.uuid in
    let wrote : Disk = run d (Write slot 0 header ∷ []) in
    let written : IsViewRight sound scope given told m wrote =
    naming-right sound scope given told m header plain d wrote some (subst (λ (a : ℕ). IsIn (d a 0) plain) (sym b) held) shut
    (λ span opened. absurd (let no = cleared-shut scope m.newest sixteen in cc))
    (λ active premise. cleared-fit scope m.newest sixteen)
    (record {
      header_is = λ v now. subst (λ (a : ℕ). IsIn (d a 0) v ⊎ (v ≡ header)) (sym b)
          (new-or v (subst (λ (l : List Sector). IsIn l v) (wrote-here slot header d) (subst (λ (a : ℕ). IsIn (wrote a 0) v) b now)));
      others = λ s k apart. wrote-beside slot header d s k (subst (λ (a : ℕ). (s ≢ a) ⊎ (k ≢ 0)) b apart);
    }) right in
    fewer-right sound scope given told m wrote e (λ s k v now. fewer s k v now) written
  where
    new-or : (v : Sector) → IsIn (cleared_header scope.uuid ∷ d slot 0) v → IsIn (d slot 0) v ⊎ (v ≡ cleared_header scope.uuid)
    new-or v (inl new) = inr new
    new-or v (inr old) = inl old

    or-new : (v : Sector) → IsIn (d slot 0) v ⊎ (v ≡ cleared_header scope.uuid) → IsIn (cleared_header scope.uuid ∷ d slot 0) v
    or-new v (inl old) = inr old
    or-new v (inr new) = inl new

    here : (k : ℕ) (v : Sector) → IsIn (e slot k) v → IsIn (run d (Write slot 0 (cleared_header scope.uuid) ∷ []) slot k) v
    here k v now = elim (cases_eq k 0) [
      | inl zero ↦ subst (λ (a : ℕ). IsIn (run d (Write slot 0 (cleared_header scope.uuid) ∷ []) slot a) v) (sym zero)
          (subst (λ (l : List Sector). IsIn l v) (sym (wrote-here slot (cleared_header scope.uuid) d)) (or-new v (heading.header_is v (subst (λ (a : ℕ). IsIn (e slot a) v) zero now))))
      | inr behind ↦ subst (λ (l : List Sector). IsIn l v) (sym (wrote-beside slot (cleared_header scope.uuid) d slot k (inr behind)))
          (kept_in (d slot k) (e slot k) v (heading.behind k behind) now)
    ]

    fewer : (s k : ℕ) (v : Sector) → IsIn (e s k) v → IsIn (run d (Write slot 0 (cleared_header scope.uuid) ∷ []) s k) v
    fewer s k v now = elim (cases_eq s slot) [
      | inl same ↦ subst (λ (a : ℕ). IsIn (run d (Write slot 0 (cleared_header scope.uuid) ∷ []) a k) v) (sym same) (here k v (subst (λ (a : ℕ). IsIn (e a k) v) same now))
      | inr other ↦ subst (λ (l : List Sector). IsIn l v) (sym (wrote-beside slot (cleared_header scope.uuid) d s k (inl other))) (subst (λ (l : List Sector). IsIn l v) (heading.others s k other) now)
    ]

-- ---- once a call is over

one-of : (l : List Sector) (v w : Sector) → l ≡ w ∷ [] → IsIn l v → v ≡ w
one-of l v w is held = of (subst (λ (a : List Sector). IsIn a v) is held)
  where
    of : IsIn (w ∷ []) v → v ≡ w
    of (inl same) = same
    of (inr none) = absurd none

pub stored-closed : StoredIsClosed
stored-closed scope m slot bytes d e there none storing header held =
    let b = backup-is scope slot there in
    none header (subst (λ (a : ℕ). IsIn (d a 0) header) (sym b) (kept_in (d slot 0) (e slot 0) header storing.header_is (subst (λ (a : ℕ). IsIn (e a 0) header) b held)))

pub naming-unsure : NamingIsUnsure
naming-unsure scope m slot span bytes d e there has sixteen next filled small room none naming =
    let b = backup-is scope slot there in (
      λ header held. which b header (naming.header_is header (subst (λ (a : ℕ). IsIn (e a 0) header) b held)),
      λ i lt. ap (λ (a : ℕ). e a (8 + i)) b ∙ naming.beside slot (8 + i) (inr (λ zero. absurd (omega (arith, zero)))) ∙ naming.section i lt,
    )
  where
    which : backup_of scope ≡ slot → (header : Sector) → IsIn (naming.mid slot 0) header ⊎ (header ≡ header_of scope.uuid span) → (open_by scope m.newest header ≡ None) ⊎ (open_by scope m.newest header ≡ Some span)
    which b header (inl old) = inl (stored-closed scope m slot bytes d naming.mid there none naming.stored header (subst (λ (a : ℕ). IsIn (naming.mid a 0) header) (sym b) old))
    which b header (inr new) = inr (ap (open_by scope m.newest) new ∙ named-open scope m.newest slot span there has sixteen next filled small room)

pub named-is-open : NamedIsOpen
named-is-open scope m slot span bytes d e there has sixteen next filled small room named =
    let b = backup-is scope slot there in (
      λ header held. ap (open_by scope m.newest) (one-of (e slot 0) header (header_of scope.uuid span) named.header_is (subst (λ (a : ℕ). IsIn (e a 0) header) b held))
          ∙ named-open scope m.newest slot span there has sixteen next filled small room,
      λ i lt. ap (λ (a : ℕ). e a (8 + i)) b ∙ named.section i lt,
    )

pub cleared-closed : ClearedIsClosed
cleared-closed scope m slot d e there sixteen headed header held =
    let b = backup-is scope slot there in
    ap (open_by scope m.newest) (one-of (e slot 0) header (cleared_header scope.uuid) headed.header_is (subst (λ (a : ℕ). IsIn (e a 0) header) b held))
    ∙ cleared-shut scope m.newest sixteen

-- ---- a section that was found

pub found-open : FoundIsOpen
found-open scope newest slot span c found there has next is =
    let b = backup-is scope slot there in
    (λ i. section_for scope (λ s k. c (b i) 0) (there i) (next i))
    ∙ ap (λ (t : Bool). cond (t && has_section scope.uuid (scope.sizes.sectors slot) (c slot) span) (Some span) None) has
    ∙ ap (λ (t : Bool). cond t (Some span) None) (sym is)

-- Superblocks that are found and refused for nothing are held, once they are flushed.
use Rattle.std.proofs.Common.{◌≡◌, ◌⊎◌, inl, inr, ⊎_elim, ℕ, zero, suc, ◌+◌, ◌<◌, ◌≤◌, ◌==◌, Bool, true, false, cond, not, ◌||◌, ◌&&◌, nat_lt, List, [], ◌∷◌, ◌++◌, drop, length, get_or, Option, Some, None, refl, sym, ◌∙◌, ap, subst, arith, length-append}
use Rattle.std.specs.Prelude.{nat_le, bytes_eq}
use Rattle.std.specs.List.{list_any}
use Rattle.std.specs.Option.{is_some}
use Rattle.std.proofs.lemmas.Bool.{cases_lt, cases_eq}
use Rattle.std.proofs.lemmas.Bool.Decides.{nat_tests}
use Rattle.std.proofs.lemmas.List.{get_or_past}
use Rattle.std.proofs.Math.Seq.{drop-append_seam}
use Rattle.sb_specs.specs.raid_types_Sectors.{Sector}
use Rattle.sb_specs.specs.raid_types_Shapes.{has_slot}
use Rattle.sb_specs.specs.raid_types_Search.{tabulate, any_below}
use Rattle.sb_specs.specs.raid_types_the_Role.{Role}
use Rattle.sb_specs.specs.raid_types_the_Role_TheVariants.{Whole, Recovering, Missing}
use Rattle.sb_specs.proofs.raid_types_Tabulated.{length-tabulate, get_or-tabulate}
use Rattle.sb_specs.specs.sb_codec_the_Sb.{Sb}
use Rattle.sb_specs.specs.sb_codec_Superblock.{superblock_in, is_valid, sb_of, two_by_two}
use Rattle.sb_specs.proofs.sb_codec_SuperblockLaws.{length-dev_roles, others-stand}
use Rattle.sb_specs.specs.bank_Tape.{Contents, IsIn}
use Rattle.sb_specs.specs.declared.members.Members.{Members}
use Rattle.sb_specs.specs.Reading.{Scope, reading_by, superblocks, newest_of, is_seen, of_array, is_fresh, entry_of, holds_role, state_of, is_spare, lies_within, is_recovering, role_count, holder, holder_from, spares_from}
use Rattle.sb_specs.specs.Verdict.{is_role, is_bad_entry}
use Rattle.sb_specs.specs.Update.{own_in, is_live, is_held_by, role_from}
use Rattle.sb_specs.specs.Outcome.{set_of}
use Rattle.sb_specs.specs.Reads.{IsNewestLike, HasNoLateRoles, IsSuited, IsSound, held_in, spare_in, has_spare}
use Rattle.sb_specs.specs.Held.{IsFirstAsNew, own_at, MayRead, IsSecondHalf, ReadsBefore, IsKnown, Shows, AreHeld, AreExact, known_of}
use Rattle.sb_read_laws.specs.Said.{AreSaid}
use Rattle.sb_specs.specs.Found.{IsInSectors}
use Rattle.sb_specs.proofs.ReadLists.{Own, by_bool, IsTop, HasNewest, found_newest, holder-same, spares-at, held-here}
use Rattle.sb_specs.proofs.ReadAlike.{tabulate-same}
use Rattle.sb_specs.proofs.HeldReads.{known_at}
use Rattle.sb_specs.proofs.SlotSets.{has-set_of, some_role}
use Rattle.sb_read_laws.proofs.SaidLists.{holder-found, role-holder, spares-are}
use Rattle.sb_specs.proofs.ValidFields.{valid-shapes, few-roles}
use Rattle.sb_read_laws.proofs.Accepted.{IsAccepted}
use Rattle.sb_read_laws.proofs.SaidSlots.{below-length}

-- ---- one slot

-- what is found in a slot
pub record IsFound (scope : Scope) (s : ℕ) (at : ℕ → Sector) (sb : Sb) : Type 0 where
  pub seen : is_seen scope s ≡ true
  pub long : 10 ≤ scope.sizes.sectors s
  pub is : sb ≡ sb_of (at 8 ++ at 9)
  pub array : bytes_eq sb.set_uuid scope.uuid ≡ true

pub found-of : (scope : Scope) (s : ℕ) (at : ℕ → Sector) (sb : Sb) → own_at scope s at ≡ Some sb → IsFound scope s at sb
found-of scope s at sb e = by_seen (is_seen scope s) refl e
  where
    at_least : (n : ℕ) → nat_le 10 n ≡ true → 10 ≤ n
    at_least n h = grind (arith, nat_tests)

    by_array : (seen : is_seen scope s ≡ true) (long : nat_le 10 (scope.sizes.sectors s) ≡ true) (b : Bool) → bytes_eq (sb_of (at 8 ++ at 9)).set_uuid scope.uuid ≡ b → cond b (Some (sb_of (at 8 ++ at 9))) None ≡ Some sb
        → IsFound scope s at sb
    by_array seen long true is e =
        let same : sb_of (at 8 ++ at 9) ≡ sb = cc in
        record { seen = seen; long = at_least (scope.sizes.sectors s) long; is = sym same; array = ap (λ (z : Sb). bytes_eq z.set_uuid scope.uuid) (sym same) ∙ is }
    by_array seen long false is e = absurd (cc)

    by_valid : (seen : is_seen scope s ≡ true) (a b : Bool) → nat_le 10 (scope.sizes.sectors s) ≡ a → of_array scope.uuid (cond (a && b) (Some (sb_of (at 8 ++ at 9))) None) ≡ Some sb → IsFound scope s at sb
    by_valid seen true true long e = by_array seen long (bytes_eq (sb_of (at 8 ++ at 9)).set_uuid scope.uuid) refl e
    by_valid seen true false long e = absurd (cc)
    by_valid seen false b long e = absurd (cc)

    by_seen : (b : Bool) → is_seen scope s ≡ b → of_array scope.uuid (cond b (superblock_in (scope.sizes.sectors s) at) None) ≡ Some sb → IsFound scope s at sb
    by_seen true seen e = by_valid seen (nat_le 10 (scope.sizes.sectors s)) (is_valid (at 8 ++ at 9)) refl e
    by_seen false seen e = absurd (cc)

-- other contents with the same sectors have the same there
own-same : (scope : Scope) (s : ℕ) (a b : ℕ → Sector) → (is_seen scope s ≡ true → (a 8 ≡ b 8) × (a 9 ≡ b 9)) → own_at scope s a ≡ own_at scope s b
own-same scope s a b same = by (is_seen scope s) refl
  where
    by : (seen : Bool) → is_seen scope s ≡ seen → of_array scope.uuid (cond seen (superblock_in (scope.sizes.sectors s) a) None) ≡ of_array scope.uuid (cond seen (superblock_in (scope.sizes.sectors s) b) None)
    by true is = let e = same is in (λ i. of_array scope.uuid (cond (nat_le 10 (scope.sizes.sectors s) && is_valid (e.0 i ++ e.1 i)) (Some (sb_of (e.0 i ++ e.1 i))) None))
    by false is = refl

one : (v w : Sector) → IsIn (w ∷ []) v → v ≡ w
one v w (inl same) = same
one v w (inr none) = absurd none

-- ---- tests

and_true : (a b : Bool) → (a && b) ≡ true → (a ≡ true) × (b ≡ true)
and_true true b h = (refl, h)
and_true false b h = absurd (cc)

all_five : (a b c d e : Bool) → (a && b && c && d && e) ≡ true → (a ≡ true) × (b ≡ true) × (c ≡ true) × (d ≡ true) × (e ≡ true)
all_five true true true true true h = (refl, refl, refl, refl, refl)
all_five true true true true false h = absurd (cc)
all_five true true true false e h = absurd (cc)
all_five true true false d e h = absurd (cc)
all_five true false c d e h = absurd (cc)
all_five false b c d e h = absurd (cc)

is-below : (a b : ℕ) → a < b → nat_lt a b ≡ true
is-below a b h = grind (arith, nat_tests)

is-less : (a b : ℕ) → nat_lt a b ≡ true → a < b
is-less a b h = grind (arith, nat_tests)

equal : (a b : ℕ) → (a == b) ≡ true → a ≡ b
equal a b h = grind (arith, nat_tests)

self : (a b : ℕ) → a ≡ b → (a == b) ≡ true
self a b e = grind (arith, nat_tests)

some_if : (b : Bool) (state found : Role) → cond b (Some state) None ≡ Some found → b ≡ true
some_if true state found is = refl
some_if false state found is = absurd (cc)

any-here : (n : ℕ) (test : ℕ → Bool) (j : ℕ) → j < n → test j ≡ true → any_below n test ≡ true
unfolding any_below
any-here zero test j lt is = absurd (omega (arith, lt))
any-here (suc n) test j lt is = elim (cases_lt j n) [
  | inl below ↦ ap (λ b. b || test n) (any-here n test j below is)
  | inr past ↦ let same : j ≡ n = omega (arith, lt, past) in ap (λ b. any_below n test || b) (ap test (sym same) ∙ is) ∙ or_true (any_below n test)
]
  where
    or_true : (b : Bool) → (b || true) ≡ true
    or_true true = refl
    or_true false = refl

-- ---- all slots

module _ (scope : Scope) (c : Contents) (d : ℕ → ℕ → List Sector) (m : Members)
    (top-is : newest_of (superblocks scope c) ≡ Some m.newest) (accepted : IsAccepted scope.sizes.sectors m.newest (superblocks scope c))
    (own-is : (s : ℕ) → s < scope.sizes.slots → own_in m.own s ≡ own_at scope s (c s))
    (roles-are : m.roles ≡ (reading_by scope.sizes.sectors (superblocks scope c) m.newest).roles) (spares-are-these : m.spares ≡ (reading_by scope.sizes.sectors (superblocks scope c) m.newest).spares)
    (inside : (s : ℕ) → is_seen scope s ≡ true → s < scope.sizes.slots) (few : scope.sizes.slots ≤ 32)
    (flushed : (s : ℕ) → is_seen scope s ≡ true → (d s 8 ≡ c s 8 ∷ []) × (d s 9 ≡ c s 9 ∷ []))
    (sectors : (s : ℕ) (sb : Sb) → own_at scope s (c s) ≡ Some sb → IsInSectors (c s)) where
  abbrev N : Sb
  N = m.newest

  abbrev X : Own
  X = superblocks scope c

  at : (s : ℕ) → s < scope.sizes.slots → get_or X s None ≡ own_at scope s (c s)
  at s h = get_or-tabulate scope.sizes.slots (λ slot. own_at scope slot (c slot)) s None h

  listed : (s : ℕ) (sb : Sb) → get_or X s None ≡ Some sb → (s < scope.sizes.slots) × (own_at scope s (c s) ≡ Some sb)
  listed s sb is = elim (cases_lt s scope.sizes.slots) [
    | inl below ↦ (below, sym (at s below) ∙ is)
    | inr past ↦ absurd (let none = get_or_past (tabulate scope.sizes.slots (λ slot. own_at scope slot (c slot))) s None (omega (arith, length-tabulate scope.sizes.slots (λ slot. own_at scope slot (c slot)), past)) in let both = sym none ∙ is in cc)
  ]

  there : (s : ℕ) (sb : Sb) → own_at scope s (c s) ≡ Some sb → s < scope.sizes.slots
  there s sb is = inside s (found-of scope s (c s) sb is).seen

  in-list : (s : ℕ) (sb : Sb) → own_at scope s (c s) ≡ Some sb → get_or X s None ≡ Some sb
  in-list s sb is = at s (there s sb is) ∙ is

  read-is : (s : ℕ) (found : Option Sb) → MayRead scope d s found → own_at scope s (c s) ≡ found
  read-is s found r = own-same scope s (c s) r.at (λ seen.
      let f = flushed s seen in
      (sym (one (r.at 8) (c s 8) (subst (λ (l : List Sector). IsIn l (r.at 8)) f.0 r.eighth)), sym (one (r.at 9) (c s 9) (subst (λ (l : List Sector). IsIn l (r.at 9)) f.1 r.ninth))))
      ∙ r.is

  top : IsTop X N
  top = of (found_newest X (Some N) top-is)
    where
      of : (◌≡◌ {A = Option Sb} (Some m.newest) None) ⊎ HasNewest (superblocks scope c) → IsTop (superblocks scope c) m.newest
      of (inl none) = absurd (cc)
      of (inr h) = let same : h.newest ≡ m.newest = (let both : Some h.newest ≡ Some m.newest = sym h.is ∙ top-is in cc) in subst (IsTop (superblocks scope c)) same h.top

  top-at : own_at scope top.slot (c top.slot) ≡ Some N
  top-at = (listed top.slot N top.there).1

  fresh-top : is_fresh N N ≡ true
  fresh-top = later N.events
    where
      later : (n : ℕ) → nat_le n (n + 1) ≡ true
      later n = grind (arith, nat_tests)

  in-bytes : (s : ℕ) (sb : Sb) → own_at scope s (c s) ≡ Some sb → length (c s 8 ++ c s 9) ≡ 1024
  in-bytes s sb is = omega (arith, length-append (c s 8) (c s 9), (sectors s sb is).eighth, (sectors s sb is).ninth)

  -- ---- the newest one

  table-of : (s : ℕ) (sb : Sb) → own_at scope s (c s) ≡ Some sb → length sb.dev_roles ≡ 384
  table-of s sb is = ap (λ (z : Sb). length z.dev_roles) (found-of scope s (c s) sb is).is ∙ length-dev_roles (c s 8 ++ c s 9) (in-bytes s sb is)

  table : length N.dev_roles ≡ 384
  table = table-of top.slot N top-at

  none-past : (sb : Sb) → length sb.dev_roles ≡ 384 → (dev : ℕ) → 384 ≤ dev → entry_of sb dev ≡ 0xfffe
  none-past sb long dev h = by (nat_lt dev sb.max_dev)
    where
      by : (b : Bool) → cond b (get_or sb.dev_roles dev 0xfffe) 0xfffe ≡ 0xfffe
      by true = get_or_past sb.dev_roles dev 0xfffe (omega (arith, h, long))
      by false = refl

  entries : (j : ℕ) → is_bad_entry N j ≡ false
  entries j = elim (cases_lt j 384) [
    | inl below ↦ accepted.entries j below
    | inr past ↦ ap (λ e. is_role e && (nat_le (role_count N) e || any_below j (λ before. entry_of N before == e) || nat_le 128 j)) (none-past N table j past)
  ]

  -- no fresh one has a role from 128 on
  late-is : (s : ℕ) (sb : Sb) → own_at scope s (c s) ≡ Some sb → is_fresh N sb ≡ true → HasNoLateRoles sb
  late-is s sb is fresh dev h = elim (cases_lt dev 384) [
    | inl below ↦ accepted.late s sb (in-list s sb is) fresh dev h below
    | inr past ↦ ap is_role (none-past sb (table-of s sb is) dev past)
  ]

  late-top : HasNoLateRoles N
  late-top = late-is top.slot N top-at fresh-top

  sound : IsSound N
  sound = record { fields = accepted.fields; room = accepted.room top.slot N top.there fresh-top; late = late-top }

  few-are : role_count N ≤ 16
  few-are = few-roles N (valid-shapes N [] accepted.fields)

  suited : (s : ℕ) (sb : Sb) → own_at scope s (c s) ≡ Some sb → IsSuited N (scope.sizes.sectors s) sb
  suited s sb is = record {
    events = top.most s sb (in-list s sb is);
    bits = accepted.bits s sb (in-list s sb is);
    room = accepted.room s sb (in-list s sb is);
    within = accepted.within s sb (in-list s sb is);
    late = λ fresh. late-is s sb is fresh;
  }

  -- ---- a role has one device, and so one slot

  below-count : (j r : ℕ) → r < 16 → entry_of N j ≡ r → r < role_count N
  below-count j r h is = of (is_role (entry_of N j)) (nat_le (role_count N) (entry_of N j)) (any_below j (λ before. entry_of N before == entry_of N j)) (nat_le 128 j) refl (entries j)
      (is-below (entry_of N j) 0xfffe (omega (arith, is, h)))
    where
      past : nat_le (role_count m.newest) (entry_of m.newest j) ≡ false → r < role_count m.newest
      past e = let lt = less (role_count m.newest) (entry_of m.newest j) e in omega (arith, lt, is)
        where
          less : (a b : ℕ) → nat_le a b ≡ false → b < a
          less a b h = grind (arith, nat_tests)

      of : (a x y z : Bool) → nat_le (role_count m.newest) (entry_of m.newest j) ≡ x → (a && (x || y || z)) ≡ false → a ≡ true → r < role_count m.newest
      of true true y z is e so = absurd (cc)
      of true false y z is e so = past is
      of false x y z is e so = absurd (cc)

  no-twin : (i j r : ℕ) → r < 16 → i < j → entry_of N i ≡ r → entry_of N j ≡ r → ⊥
  no-twin i j r h lt is is' = of (is_role (entry_of N j)) (nat_le (role_count N) (entry_of N j)) (any_below j (λ before. entry_of N before == entry_of N j)) (nat_le 128 j) (entries j)
      (is-below (entry_of N j) 0xfffe (omega (arith, is', h)))
      (any-here j (λ before. entry_of N before == entry_of N j) i lt (self (entry_of N i) (entry_of N j) (is ∙ sym is')))
    where
      of : (a x y z : Bool) → (a && (x || y || z)) ≡ false → a ≡ true → y ≡ true → ⊥
      of true true true z e so has = absurd (cc)
      of true false true z e so has = absurd (cc)
      of true x false z e so has = absurd (cc)
      of false x y z e so has = absurd (cc)

  one-device : (i j r : ℕ) → r < 16 → entry_of N i ≡ r → entry_of N j ≡ r → i ≡ j
  one-device i j r h is is' = elim (cases_lt i j) [
    | inl below ↦ absurd (no-twin i j r h below is is')
    | inr past ↦ elim (cases_lt j i) [
      | inl above ↦ absurd (no-twin j i r h above is' is)
      | inr least ↦ omega (arith, past, least)
    ]
  ]

  one-slot : (s t r : ℕ) (a b : Sb) → r < 16 → own_at scope s (c s) ≡ Some a → own_at scope t (c t) ≡ Some b → holds_role N r a ≡ true → holds_role N r b ≡ true → t ≡ s
  one-slot s t r a b h is is' holds holds' = elim (cases_eq t s) [
    | inl same ↦ same
    | inr apart ↦
        let p = and_true (is_fresh N a) (entry_of N a.dev_number == r) holds in
        let q = and_true (is_fresh N b) (entry_of N b.dev_number == r) holds' in
        absurd (accepted.apart t s b a apart (in-list t b is') (in-list s a is) q.0 p.0
        (one-device b.dev_number a.dev_number r h (equal (entry_of N b.dev_number) r q.1) (equal (entry_of N a.dev_number) r p.1)))
  ]

  -- the holder of a role is its only one
  holder-is : (s r : ℕ) (sb : Sb) → r < 16 → own_at scope s (c s) ≡ Some sb → holds_role N r sb ≡ true → holder_from N r 0 X ≡ state_of s sb
  holder-is s r sb h is holds =
      let here : s ≡ 0 + s = omega arith in
      holder-found N r 0 X s (state_of s sb) (omega (arith, there s sb is, length-tabulate scope.sizes.slots (λ slot. own_at scope slot (c slot))))
      (subst (λ (j : ℕ). held_in N r j (get_or X s None) ≡ Some (state_of s sb)) here
      (ap (held_in N r s) (in-list s sb is) ∙ ap (λ b. cond b (Some (state_of s sb)) None) holds))
      (λ j lt. none j lt (get_or X j None) refl)
    where
      none : (j : ℕ) → j < s → (found : Option Sb) → get_or (superblocks scope c) j None ≡ found → held_in m.newest r (0 + j) found ≡ None
      none j lt None e = refl
      none j lt (Some b) e = ⊎_elim
          (λ holds'. absurd (let same = one-slot s j r sb b h is (listed j b e).1 holds holds' in omega (arith, same, lt)))
          (λ isnt. ap (λ x. cond x (Some (state_of (0 + j) b)) None) isnt) (by_bool (holds_role m.newest r b))

  -- ---- the slots that have a part

  live-is : (s : ℕ) → s < scope.sizes.slots → is_live m.roles m.spares s ≡ true → has_slot (set_of 32 (is_live m.roles m.spares)) s ≡ true
  live-is s h is = has-set_of 32 (is_live m.roles m.spares) s ∙ (λ i. is-below s 32 (omega (arith, h, few)) i && is i)

  role-state : (r : ℕ) → r < role_count N → get_or m.roles r Missing ≡ holder_from N r 0 X
  role-state r h = ap (λ (l : List Role). get_or l r Missing) roles-are ∙ get_or-tabulate (role_count N) (λ role. holder_from N role 0 X) r Missing h

  role-live : (s r : ℕ) (sb : Sb) → r < 16 → own_at scope s (c s) ≡ Some sb → holds_role N r sb ≡ true → has_slot (set_of 32 (is_live m.roles m.spares)) s ≡ true
  role-live s r sb h is holds =
      let p = and_true (is_fresh N sb) (entry_of N sb.dev_number == r) holds in
      let below = below-count sb.dev_number r h (equal (entry_of N sb.dev_number) r p.1) in
      let state : get_or m.roles r Missing ≡ state_of s sb = role-state r below ∙ holder-is s r sb h is holds in
      let long : r < length m.roles = omega (arith, below, ap length roles-are, length-tabulate (role_count N) (λ role. holder_from N role 0 X)) in
      live-is s (there s sb is) (ap (λ b. b || has_spare m.spares s) (any-at (is_held_by s) m.roles r long (ap (is_held_by s) state ∙ held (is_recovering sb))))
    where
      held : (b : Bool) → is_held_by s (cond b (Recovering s) (Whole s)) ≡ true
      held true = self s s refl
      held false = self s s refl

      or_same : (a b : Bool) → b ≡ true → (a || b) ≡ true
      or_same true b e = refl
      or_same false b e = e

      any-at : (p : Role → Bool) (l : List Role) (k : ℕ) → k < length l → p (get_or l k Missing) ≡ true → list_any p l ≡ true
      any-at p [] k lt is = absurd (omega (arith, lt))
      any-at p (x ∷ l) zero lt is = ap (λ b. b || list_any p l) is
      any-at p (x ∷ l) (suc k) lt is = or_same (p x) (list_any p l) (any-at p l k (omega (arith, lt)) is)

  spare-is : (s : ℕ) → has_spare m.spares s ≡ spare_in N (scope.sizes.sectors s) (get_or X s None)
  spare-is s = let here : s ≡ 0 + s = omega arith in ap (λ (l : List ℕ). has_spare l s) spares-are-these ∙ spares-at N scope.sizes.sectors 0 s s X here

  spare-live : (s : ℕ) (sb : Sb) → own_at scope s (c s) ≡ Some sb → is_spare N (scope.sizes.sectors s) sb ≡ true → has_slot (set_of 32 (is_live m.roles m.spares)) s ≡ true
  spare-live s sb is spare =
      live-is s (there s sb is) (ap (λ b. list_any (is_held_by s) m.roles || b) (spare-is s ∙ ap (spare_in N (scope.sizes.sectors s)) (in-list s sb is) ∙ spare) ∙ or_true (list_any (is_held_by s) m.roles))
    where
      or_true : (b : Bool) → (b || true) ≡ true
      or_true true = refl
      or_true false = refl

  -- what has a part: a fresh superblock that has a role below 16, or is a spare
  abbrev HasPart : ℕ → Type 0
  HasPart s = (sb : Sb) × (own_at scope s (c s) ≡ Some sb) × (((r : ℕ) × (r < 16) × (holds_role m.newest r sb ≡ true)) ⊎ (is_spare m.newest (scope.sizes.sectors s) sb ≡ true))

  role-part : (s r : ℕ) → holder (get_or m.roles r Missing) ≡ Some s → HasPart s
  role-part s r is = of (get_or X s None) refl
    where
      below : r < role_count m.newest
      below = omega (arith, below-length m.roles r s is, ap length roles-are, length-tabulate (role_count m.newest) (λ role. holder_from m.newest role 0 (superblocks scope c)))

      of : (found : Option Sb) → get_or (superblocks scope c) s None ≡ found → HasPart s
      of None e = absurd (let h = held-here m.newest r (superblocks scope c) s (ap holder (sym (role-state r below)) ∙ is) in let both = ap (held_in m.newest r s) (sym e) ∙ h.1 in cc)
      of (Some sb) e =
          let h = held-here m.newest r (superblocks scope c) s (ap holder (sym (role-state r below)) ∙ is) in
          (sb, (listed s sb e).1, inl (r, omega (arith, below, few-are), some_if (holds_role m.newest r sb) (state_of s sb) h.0 (ap (held_in m.newest r s) (sym e) ∙ h.1)))

  spare-part : (s : ℕ) → has_spare m.spares s ≡ true → HasPart s
  spare-part s is = of (get_or X s None) refl (sym (spare-is s) ∙ is)
    where
      of : (found : Option Sb) → get_or (superblocks scope c) s None ≡ found → spare_in m.newest (scope.sizes.sectors s) found ≡ true → HasPart s
      of None e spare = absurd (cc)
      of (Some sb) e spare = (sb, (listed s sb e).1, inr spare)

  live-part : (s : ℕ) → has_slot (set_of 32 (is_live m.roles m.spares)) s ≡ true → HasPart s
  live-part s is = of (role_from s 0 m.roles) refl (and_true (nat_lt s 32) (is_live m.roles m.spares s) (sym (has-set_of 32 (is_live m.roles m.spares) s) ∙ is)).1
    where
      drop_first : (a b : Bool) → a ≡ false → (a || b) ≡ true → b ≡ true
      drop_first true b e h = absurd (cc)
      drop_first false b e h = h

      of : (found : Option ℕ) → role_from s 0 m.roles ≡ found → is_live m.roles m.spares s ≡ true → HasPart s
      of (Some r) e live = role-part s r (role-holder s m.roles r e)
      of None e live = spare-part s (drop_first (list_any (is_held_by s) m.roles) (has_spare m.spares s) (sym (some_role s 0 m.roles) ∙ ap is_some e) live)

  -- ---- a slot that is known

  record IsGood (s : ℕ) (sb : Sb) : Type 0 where
    pub fresh : is_fresh m.newest sb ≡ true
    pub number : sb.dev_number < 128
    pub lies : lies_within m.newest (scope.sizes.sectors s) sb ≡ true

  good : (s : ℕ) (sb : Sb) → own_at scope s (c s) ≡ Some sb → ((r : ℕ) × (r < 16) × (holds_role m.newest r sb ≡ true)) ⊎ (is_spare m.newest (scope.sizes.sectors s) sb ≡ true) → IsGood s sb
  good s sb is (inl role) =
      let p = and_true (is_fresh m.newest sb) (entry_of m.newest sb.dev_number == role.0) role.2 in
      let entry : entry_of m.newest sb.dev_number ≡ role.0 = equal (entry_of m.newest sb.dev_number) role.0 p.1 in
      record {
        fresh = p.0;
        number = elim (cases_lt sb.dev_number 128) [
          | inl below ↦ below
          | inr past ↦ absurd (let none = late-top sb.dev_number past in let so = is-below (entry_of m.newest sb.dev_number) 0xfffe (omega (arith, entry, role.1)) in let both = sym none ∙ so in cc)
        ];
        lies = accepted.within s sb (in-list s sb is) p.0 (is-below (entry_of m.newest sb.dev_number) (role_count m.newest) (let below = below-count sb.dev_number role.0 role.1 entry in omega (arith, below, entry)));
      }
  good s sb is (inr spare) =
      let p = all_five (is_fresh m.newest sb) (not (is_recovering sb)) (nat_lt sb.dev_number 128) (entry_of m.newest sb.dev_number == 0xffff) (lies_within m.newest (scope.sizes.sectors s) sb) spare in
      record { fresh = p.0; number = is-less sb.dev_number 128 p.2; lies = p.4 }

  reads-before : (s : ℕ) (sb : Sb) (found : Option Sb) → own_at scope s (c s) ≡ Some sb → is_fresh m.newest sb ≡ true → MayRead scope d s found → ReadsBefore m.newest sb found
  reads-before s sb found is fresh r = (
    sb,
    (sb.sb_csum, sym (read-is s found r) ∙ is),
    record {
      events = top.most s sb (in-list s sb is);
      fresh = fresh;
      number = refl;
      start = refl;
      table = refl;
      refused = refl;
      recovering = refl;
      offset = λ recovers. refl;
      late = late-is s sb is fresh;
    },
  )

  second-is : (s : ℕ) (sb : Sb) (sector : Sector) → own_at scope s (c s) ≡ Some sb → IsIn (d s 9) sector → IsSecondHalf sb sector
  second-is s sb sector is is_in =
      let f = found-of scope s (c s) sb is in
      let same : sector ≡ c s 9 = one sector (c s 9) (subst (λ (l : List Sector). IsIn l sector) (flushed s f.seen).1 is_in) in
      subst (IsSecondHalf sb) (sym same) (record {
        long = (sectors s sb is).ninth;
        bytes = (sectors s sb is).bytes;
        entries =
            ap two_by_two (sym (ap (λ (n : ℕ). drop n (c s 8 ++ c s 9)) (sym ((sectors s sb is).eighth)) ∙ drop-append_seam (c s 8) (c s 9)))
            ∙ others-stand (c s 8 ++ c s 9) (in-bytes s sb is)
            ∙ ap (λ (z : Sb). drop 128 z.dev_roles) (sym f.is);
      })

  each-known : (s : ℕ) → has_slot (set_of 32 (is_live m.roles m.spares)) s ≡ true → IsKnown scope m.newest (own_in m.own s) s d
  each-known s is =
      let p = live-part s is in
      let f = found-of scope s (c s) p.0 p.1 in
      let g = good s p.0 p.1 p.2 in
      record {
        sb = p.0;
        own = own-is s (there s p.0 p.1) ∙ p.1;
        reads = λ found r. reads-before s p.0 found p.1 g.fresh r;
        second = λ sector is_in. second-is s p.0 sector p.1 is_in;
        seen = f.seen;
        long = f.long;
        there = there s p.0 p.1;
        array = f.array;
        fresh = g.fresh;
        number = g.number;
        late = late-is s p.0 p.1 g.fresh;
        lies = g.lies;
        suited = suited s p.0 p.1;
      }

  -- ---- another slot

  no-role : (s r : ℕ) (found : Option Sb) → has_slot (set_of 32 (is_live m.roles m.spares)) s ≡ false → r < 16 → own_at scope s (c s) ≡ found → held_in m.newest r s found ≡ None
  no-role s r None none h is = refl
  no-role s r (Some sb) none h is = ⊎_elim (λ holds. absurd (let live = role-live s r sb h is holds in let both = sym none ∙ live in cc))
      (λ isnt. ap (λ b. cond b (Some (state_of s sb)) None) isnt) (by_bool (holds_role m.newest r sb))

  no-spare : (s : ℕ) (found : Option Sb) → has_slot (set_of 32 (is_live m.roles m.spares)) s ≡ false → own_at scope s (c s) ≡ found → spare_in m.newest (scope.sizes.sectors s) found ≡ false
  no-spare s None none is = refl
  no-spare s (Some sb) none is = ⊎_elim (λ spare. absurd (let live = spare-live s sb is spare in let both = sym none ∙ live in cc)) (λ isnt. isnt) (by_bool (is_spare m.newest (scope.sizes.sectors s) sb))

  shown : (s : ℕ) (a : Sb) → Shows scope (set_of 32 (is_live m.roles m.spares)) m.own d s a → own_at scope s (c s) ≡ Some a
  shown s a (inl is) = let p = live-part s is.0 in sym (own-is s (there s p.0 p.1)) ∙ is.1
  shown s a (inr other) = read-is s (Some a) other.1

  -- ---- all of them

  -- the first that is as new is the newest one itself
  first-is : (s : ℕ) (sb : Sb) → IsFirstAsNew scope N d s sb → IsNewestLike N sb
  first-is s sb f =
      let here : own_at scope s (c s) ≡ Some sb = read-is s (f.shown s) (f.may s (omega arith)) ∙ f.is in
      let low : top.slot ≤ s = top.lowest s sb (in-list s sb here) f.events in
      let same : top.slot ≡ s = elim (cases_eq top.slot s) [
        | inl is ↦ is
        | inr other ↦ absurd (f.none top.slot N (omega (arith, low, other)) (sym (read-is top.slot (f.shown top.slot) (f.may top.slot low)) ∙ top-at) refl)
      ] in
      let both : Some N ≡ Some sb = sym top-at ∙ ap (λ (t : ℕ). own_at scope t (c t)) same ∙ here in
      subst (IsNewestLike N) (let is : N ≡ sb = cc in is) self-like
    where
      self-like : IsNewestLike m.newest m.newest
      self-like = record {
        array = record { level = refl; layout = refl; size = refl; chunksize = refl; raid_disks = refl; new_level = refl; reshape_position = refl; delta_disks = refl; new_layout = refl; new_chunk = refl; resync_offset = refl; reshaping = refl; backward = refl };
        entries = λ dev lt. refl;
        late = late-top;
      }

  pub found-held : (lost : ℕ) → AreHeld scope (set_of 32 (is_live m.roles m.spares)) lost m.newest m.own d
  found-held lost = record {
    sound = sound;
    table = table;
    each = each-known;
    others = λ s below none. record {
      suited = λ sb r. suited s sb (read-is s (Some sb) r);
      role = λ role found h r. no-role s role found none h (read-is s found r);
      spare = λ found left r. no-spare s found none (read-is s found r);
    };
    top = (top.slot, there top.slot N top-at, λ found r. (N, sym (read-is top.slot found r) ∙ top-at, refl));
    first = first-is;
    apart = λ s t a b differ is is' fresh fresh'. accepted.apart s t a b differ (in-list s a (shown s a is)) (in-list t b (shown t b is')) fresh fresh';
  }

  pub found-exact : AreExact scope (set_of 32 (is_live m.roles m.spares)) m.own d
  found-exact s sb found is own r =
      let p = live-part s is in
      (sb.sb_csum, sym (read-is s found r) ∙ sym (own-is s (there s p.0 p.1)) ∙ own)

  -- each is known by its slot, or has no part
  known-in : (s : ℕ) → has_slot (set_of 32 (is_live m.roles m.spares)) s ≡ true → get_or (known_of scope (set_of 32 (is_live m.roles m.spares)) m.own) s None ≡ get_or X s None
  known-in s is =
      let p = live-part s is in
      let below = there s p.0 p.1 in
      get_or-tabulate scope.sizes.slots (known_at (set_of 32 (is_live m.roles m.spares)) m.own) s None below
      ∙ ap (λ b. cond b (own_in m.own s) None) is ∙ own-is s below ∙ sym (at s below)

  known-none : (s : ℕ) → has_slot (set_of 32 (is_live m.roles m.spares)) s ≡ false → get_or (known_of scope (set_of 32 (is_live m.roles m.spares)) m.own) s None ≡ None
  known-none s none = elim (cases_lt s scope.sizes.slots) [
    | inl below ↦ get_or-tabulate scope.sizes.slots (known_at (set_of 32 (is_live m.roles m.spares)) m.own) s None below ∙ ap (λ b. cond b (own_in m.own s) None) none
    | inr past ↦ get_or_past (tabulate scope.sizes.slots (known_at (set_of 32 (is_live m.roles m.spares)) m.own)) s None
        (omega (arith, length-tabulate scope.sizes.slots (known_at (set_of 32 (is_live m.roles m.spares)) m.own), past))
  ]

  listed-none : (s r : ℕ) → has_slot (set_of 32 (is_live m.roles m.spares)) s ≡ false → r < 16 → held_in m.newest r s (get_or X s None) ≡ None
  listed-none s r none h = of (get_or X s None) refl
    where
      of : (found : Option Sb) → get_or (superblocks scope c) s None ≡ found → held_in m.newest r s found ≡ None
      of None e = refl
      of (Some sb) e = no-role s r (Some sb) none h (listed s sb e).1

  listed-no-spare : (s : ℕ) → has_slot (set_of 32 (is_live m.roles m.spares)) s ≡ false → spare_in m.newest (scope.sizes.sectors s) (get_or X s None) ≡ false
  listed-no-spare s none = of (get_or X s None) refl
    where
      of : (found : Option Sb) → get_or (superblocks scope c) s None ≡ found → spare_in m.newest (scope.sizes.sectors s) found ≡ false
      of None e = refl
      of (Some sb) e = no-spare s (Some sb) none (listed s sb e).1

  same-role : (r : ℕ) → r < 16 → holder_from m.newest r 0 X ≡ holder_from m.newest r 0 (known_of scope (set_of 32 (is_live m.roles m.spares)) m.own)
  same-role r h = holder-same m.newest m.newest r 0 X (known_of scope (set_of 32 (is_live m.roles m.spares)) m.own)
      (length-tabulate scope.sizes.slots (λ slot. own_at scope slot (c slot)) ∙ sym (length-tabulate scope.sizes.slots (known_at (set_of 32 (is_live m.roles m.spares)) m.own)))
      (λ k. let here : k ≡ 0 + k = omega arith in
      subst (λ (j : ℕ). held_in m.newest r j (get_or X k None) ≡ held_in m.newest r j (get_or (known_of scope (set_of 32 (is_live m.roles m.spares)) m.own) k None)) here
      (⊎_elim (λ is. ap (held_in m.newest r k) (sym (known-in k is))) (λ none. listed-none k r none h ∙ sym (ap (held_in m.newest r k) (known-none k none)))
      (by_bool (has_slot (set_of 32 (is_live m.roles m.spares)) k))))

  same-spares : spares_from m.newest scope.sizes.sectors 0 X ≡ spares_from m.newest scope.sizes.sectors 0 (known_of scope (set_of 32 (is_live m.roles m.spares)) m.own)
  same-spares =
      let test : ℕ → Bool = λ s. spare_in m.newest (scope.sizes.sectors s) (get_or X s None) in
      let past : (s : ℕ) → scope.sizes.slots ≤ s → spare_in m.newest (scope.sizes.sectors s) (get_or X s None) ≡ false = λ s h.
      ap (spare_in m.newest (scope.sizes.sectors s)) (get_or_past X s None (omega (arith, length-tabulate scope.sizes.slots (λ slot. own_at scope slot (c slot)), h))) in
      spares-are m.newest scope.sizes.sectors test scope.sizes.slots X (λ k lt. refl) (λ s h. past s (omega (arith, length-tabulate scope.sizes.slots (λ slot. own_at scope slot (c slot)), h))) past
      ∙ sym (spares-are m.newest scope.sizes.sectors test scope.sizes.slots (known_of scope (set_of 32 (is_live m.roles m.spares)) m.own)
      (λ k lt. ⊎_elim (λ is. ap (spare_in m.newest (scope.sizes.sectors k)) (known-in k is))
      (λ none. ap (spare_in m.newest (scope.sizes.sectors k)) (known-none k none) ∙ sym (listed-no-spare k none)) (by_bool (has_slot (set_of 32 (is_live m.roles m.spares)) k)))
      (λ s h. past s (omega (arith, length-tabulate scope.sizes.slots (known_at (set_of 32 (is_live m.roles m.spares)) m.own), h))) past)

  pub found-said : AreSaid scope (set_of 32 (is_live m.roles m.spares)) m
  found-said = record {
    roles = roles-are ∙ tabulate-same (role_count m.newest) (λ role. holder_from m.newest role 0 X) (λ role. holder_from m.newest role 0 (known_of scope (set_of 32 (is_live m.roles m.spares)) m.own))
        (λ k h. same-role k (omega (arith, h, few-are)));
    spares = spares-are-these ∙ same-spares;
  }

  -- none of the slots that aren't looked at is live
  pub live-seen : (s : ℕ) → has_slot (set_of 32 (is_live m.roles m.spares)) s ≡ true → is_seen scope s ≡ true
  live-seen s is = let p = live-part s is in (found-of scope s (c s) p.0 p.1).seen

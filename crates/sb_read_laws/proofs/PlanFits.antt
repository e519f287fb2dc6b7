-- The plan of a change that fits.
use Rattle.std.proofs.Common.{◌≡◌, ◌≢◌, ◌⊎◌, inl, inr, ⊎_elim, ℕ, zero, suc, ◌+◌, ◌-◌, ◌^◌, ◌*◌, ◌<◌, ◌≤◌, ◌==◌, Bool, true, false, cond, not, ◌||◌, ◌&&◌, nat_lt, min, List, [], ◌∷◌, ◌++◌, take, drop, map, set, length, get_or, Option, Some, None, option_map, refl, sym, ◌∙◌, ap, ap₂, subst, arith, length-append, length-drop, length-set, take-append-drop}
use Rattle.std.specs.Prelude.{nat_le, find}
use Rattle.std.specs.Option.{option_or}
use Rattle.std.proofs.lemmas.Bool.{cases_lt, cases_eq}
use Rattle.std.proofs.lemmas.Bool.Decides.{nat_tests}
use Rattle.std.proofs.lemmas.List.{length-take-le, get_or-take, get_or-drop, get_or_append_left, get_or-append_right}
use Rattle.sb_specs.specs.raid_types_Sectors.{Sector}
use Rattle.sb_specs.specs.raid_types_Shapes.{has_slot}
use Rattle.sb_specs.specs.raid_types_Search.{any_below}
use Rattle.sb_specs.specs.raid_types_the_Refusal_TheVariants.{BadField}
use Rattle.sb_specs.proofs.raid_types_Least.{least_below-none}
use Rattle.sb_specs.specs.sb_codec_the_Sb.{Sb}
use Rattle.sb_specs.specs.declared.change.Give.{Give}
use Rattle.sb_specs.specs.declared.change.Give.TheVariants.{Same, Spare}
use Rattle.sb_specs.specs.declared.change.Give.TheVariants as give
use Rattle.sb_specs.specs.declared.change.Change.{Change}
use Rattle.sb_specs.specs.declared.members.Members.{Members}
use Rattle.sb_specs.specs.Reading.{Scope, is_fresh, is_recovering, entry_of, holds_role, state_of, is_spare, lies_within, role_count}
use Rattle.sb_specs.specs.Verdict.{judged_fields, is_bad_entry, is_role}
use Rattle.sb_specs.specs.Update.{give_of, own_in, is_recovery, planned_role, is_planned_spare, slot_entry, entry_for, with_entry, with_entries, with_roles, faulty_role}
use Rattle.sb_specs.specs.Reads.{HasNoLateRoles, IsSound, held_in, spare_in}
use Rattle.sb_specs.specs.Held.{MayRead, Shows, AreHeld}
use Rattle.sb_specs.specs.Stages.{IsDeviceKept, IsFitPlan}
use Rattle.sb_specs.specs.Updating.{planned_newest}
use Rattle.sb_specs.specs.Plans.{next_newest, KeepsRecovery, IsFitChange}
use Rattle.sb_specs.proofs.ReadLists.{by_bool}
use Rattle.sb_specs.proofs.Searches.{any_below-none}
use Rattle.sb_specs.proofs.PlannedSb.{recovering-same, recovering-spare, recovering-none}
use Rattle.sb_specs.proofs.UpdateReads.{fresh_back}
use Rattle.sb_specs.proofs.ValidFields.{few-events}

abbrev Own : Type 0
Own = List (Option Sb)

-- ---- the table's entries

-- what stands at an index after a device's entry was set, or not
abbrev pub IsEntered : (ℕ → Option ℕ) → Own → ℕ → ℕ → ℕ → Type 0
IsEntered entries own n dev entry = (t : ℕ) × (t < n) × (sb : Sb) × (entries t ≡ Some entry) × (own_in own t ≡ Some sb) × (sb.dev_number ≡ dev)

length-entry : (e : Option ℕ) (held : Option Sb) (table : List ℕ) → length (with_entry e held table) ≡ length table
length-entry None held table = refl
length-entry (Some e) None table = refl
length-entry (Some e) (Some sb) table = of (nat_lt sb.dev_number 128)
  where
    of : (b : Bool) → length (cond b (set table sb.dev_number e) table) ≡ length table
    of true = length-set table sb.dev_number e
    of false = refl

pub length-entries : (entries : ℕ → Option ℕ) (own : Own) (n : ℕ) (table : List ℕ) → length (with_entries entries own n table) ≡ length table
unfolding with_entries
length-entries entries own zero table = refl
length-entries entries own (suc n) table = length-entry (entries n) (own_in own n) (with_entries entries own n table) ∙ length-entries entries own n table

past_set : (table : List ℕ) (i j x d : ℕ) → i ≢ j → get_or (set table i x) j d ≡ get_or table j d
past_set [] i j x d apart = refl
past_set (y ∷ table) zero zero x d apart = absurd (apart refl)
past_set (y ∷ table) zero (suc j) x d apart = refl
past_set (y ∷ table) (suc i) zero x d apart = refl
past_set (y ∷ table) (suc i) (suc j) x d apart = past_set table i j x d (omega (arith, apart))

at_set : (table : List ℕ) (i x d : ℕ) → i < length table → get_or (set table i x) i d ≡ x
at_set [] i x d lt = absurd (omega (arith, lt))
at_set (y ∷ table) zero x d lt = refl
at_set (y ∷ table) (suc i) x d lt = at_set table i x d (omega (arith, lt))

-- an index from 128 on
late_entry : (e : Option ℕ) (held : Option Sb) (table : List ℕ) (dev d : ℕ) → 128 ≤ dev → get_or (with_entry e held table) dev d ≡ get_or table dev d
late_entry None held table dev d late = refl
late_entry (Some e) None table dev d late = refl
late_entry (Some e) (Some sb) table dev d late = of (nat_lt sb.dev_number 128) refl
  where
    less : nat_lt sb.dev_number 128 ≡ true → sb.dev_number < 128
    less h = grind (arith, nat_tests)

    of : (b : Bool) → nat_lt sb.dev_number 128 ≡ b → get_or (cond b (set table sb.dev_number e) table) dev d ≡ get_or table dev d
    of true is = let below = less is in past_set table sb.dev_number dev e d (omega (arith, below, late))
    of false is = refl

pub late_entries : (entries : ℕ → Option ℕ) (own : Own) (n : ℕ) (table : List ℕ) (dev d : ℕ) → 128 ≤ dev → get_or (with_entries entries own n table) dev d ≡ get_or table dev d
unfolding with_entries
late_entries entries own zero table dev d late = refl
late_entries entries own (suc n) table dev d late = late_entry (entries n) (own_in own n) (with_entries entries own n table) dev d late ∙ late_entries entries own n table dev d late

-- one entry more: the index has it, or what it had
one_entry : (e : Option ℕ) (held : Option Sb) (table : List ℕ) (dev d : ℕ) → 128 ≤ length table
    → (get_or (with_entry e held table) dev d ≡ get_or table dev d) ⊎ ((sb : Sb) × (entry : ℕ) × (e ≡ Some entry) × (held ≡ Some sb) × (sb.dev_number ≡ dev) × (get_or (with_entry e held table) dev d ≡ entry))
one_entry None held table dev d long = inl refl
one_entry (Some e) None table dev d long = inl refl
one_entry (Some e) (Some sb) table dev d long = of (nat_lt sb.dev_number 128) refl
  where
    less : nat_lt sb.dev_number 128 ≡ true → sb.dev_number < 128
    less h = grind (arith, nat_tests)

    of : (b : Bool) → nat_lt sb.dev_number 128 ≡ b → (get_or (cond b (set table sb.dev_number e) table) dev d ≡ get_or table dev d)
        ⊎ ((sb' : Sb) × (entry : ℕ) × (Some e ≡ Some entry) × (Some sb ≡ Some sb') × (sb'.dev_number ≡ dev) × (get_or (cond b (set table sb.dev_number e) table) dev d ≡ entry))
    of false is = inl refl
    of true is = elim (cases_eq sb.dev_number dev) [
      | inl same ↦ inr (sb, e, refl, refl, same, subst (λ (k : ℕ). get_or (set table sb.dev_number e) k d ≡ e) same (at_set table sb.dev_number e d (let below = less is in omega (arith, below, long))))
      | inr apart ↦ inl (past_set table sb.dev_number dev e d apart)
    ]

pub entries-at : (entries : ℕ → Option ℕ) (own : Own) (n : ℕ) (table : List ℕ) (dev d : ℕ) → 128 ≤ length table
    → (get_or (with_entries entries own n table) dev d ≡ get_or table dev d) ⊎ IsEntered entries own n dev (get_or (with_entries entries own n table) dev d)
unfolding with_entries
entries-at entries own zero table dev d long = inl refl
entries-at entries own (suc n) table dev d long = of
    (one_entry (entries n) (own_in own n) (with_entries entries own n table) dev d (omega (arith, length-entries entries own n table, long)))
    (entries-at entries own n table dev d long)
  where
    of : (get_or (with_entry (entries n) (own_in own n) (with_entries entries own n table)) dev d ≡ get_or (with_entries entries own n table) dev d)
        ⊎ ((sb : Sb) × (entry : ℕ) × (entries n ≡ Some entry) × (own_in own n ≡ Some sb) × (sb.dev_number ≡ dev) × (get_or (with_entry (entries n) (own_in own n) (with_entries entries own n table)) dev d ≡ entry))
        → (get_or (with_entries entries own n table) dev d ≡ get_or table dev d) ⊎ IsEntered entries own n dev (get_or (with_entries entries own n table) dev d)
        → (get_or (with_entry (entries n) (own_in own n) (with_entries entries own n table)) dev d ≡ get_or table dev d)
        ⊎ IsEntered entries own (suc n) dev (get_or (with_entry (entries n) (own_in own n) (with_entries entries own n table)) dev d)
    of (inr (sb, entry, is, held, number, at)) before = inr (n, omega arith, sb, is ∙ ap (λ (e : ℕ). Some e) (sym at), held, number)
    of (inl same) (inl kept) = inl (same ∙ kept)
    of (inl same) (inr (t, lt, sb, is, held, number)) = inr (t, omega (arith, lt), sb, is ∙ ap (λ (e : ℕ). Some e) (sym same), held, number)

-- one device's entry that is set
set_entry : (e : Option ℕ) (held : Option Sb) (table : List ℕ) (sb : Sb) (entry d : ℕ) → 128 ≤ length table → e ≡ Some entry → held ≡ Some sb → sb.dev_number < 128
    → get_or (with_entry e held table) sb.dev_number d ≡ entry
set_entry e held table sb entry d long is own below =
    (λ i. get_or (with_entry (is i) (own i) table) sb.dev_number d)
    ∙ ap (λ b. get_or (cond b (set table sb.dev_number entry) table) sb.dev_number d) (is_lower sb.dev_number 128 below)
    ∙ at_set table sb.dev_number entry d (omega (arith, below, long))
  where
    is_lower : (a b : ℕ) → a < b → nat_lt a b ≡ true
    is_lower a b h = grind (arith, nat_tests)

-- A device has the entry of its slot, where no slot gives it another one.
pub entry-set : (entries : ℕ → Option ℕ) (own : Own) (n : ℕ) (table : List ℕ) (s entry d : ℕ) (sb : Sb) → 128 ≤ length table → s < n → entries s ≡ Some entry → own_in own s ≡ Some sb → sb.dev_number < 128
    → ((t other : ℕ) (a : Sb) → entries t ≡ Some other → own_in own t ≡ Some a → a.dev_number ≡ sb.dev_number → other ≡ entry)
    → get_or (with_entries entries own n table) sb.dev_number d ≡ entry
unfolding with_entries
entry-set entries own zero table s entry d sb long lt is held below only = absurd (omega (arith, lt))
entry-set entries own (suc n) table s entry d sb long lt is held below only = elim (cases_lt s n) [
  | inl before ↦ of (one_entry (entries n) (own_in own n) (with_entries entries own n table) sb.dev_number d enough)
      (entry-set entries own n table s entry d sb long before is held below only)
  | inr past ↦
      let here : s ≡ n = omega (arith, lt, past) in
      set_entry (entries n) (own_in own n) (with_entries entries own n table) sb entry d enough (ap entries (sym here) ∙ is) (ap (own_in own) (sym here) ∙ held) below
]
  where
    enough : 128 ≤ length (with_entries entries own n table)
    enough = omega (arith, length-entries entries own n table, long)

    of : (get_or (with_entry (entries n) (own_in own n) (with_entries entries own n table)) sb.dev_number d ≡ get_or (with_entries entries own n table) sb.dev_number d)
        ⊎ ((a : Sb) × (other : ℕ) × (entries n ≡ Some other) × (own_in own n ≡ Some a) × (a.dev_number ≡ sb.dev_number) × (get_or (with_entry (entries n) (own_in own n) (with_entries entries own n table)) sb.dev_number d ≡ other))
        → get_or (with_entries entries own n table) sb.dev_number d ≡ entry
        → get_or (with_entry (entries n) (own_in own n) (with_entries entries own n table)) sb.dev_number d ≡ entry
    of (inl same) was = same ∙ was
    of (inr (a, other, is', held', number, at)) was = at ∙ only n other a is' held' number

mapped : (f : ℕ → ℕ) (l : List ℕ) (i d : ℕ) → i < length l → get_or (map f l) i d ≡ f (get_or l i d)
mapped f [] i d lt = absurd (omega (arith, lt))
mapped f (x ∷ l) zero d lt = refl
mapped f (x ∷ l) (suc i) d lt = mapped f l i d (omega (arith, lt))

pub length_mapped : (f : ℕ → ℕ) (l : List ℕ) → length (map f l) ≡ length l
length_mapped f [] = refl
length_mapped f (x ∷ l) = ap suc (length_mapped f l)

abbrev cleared : List ℕ → List ℕ
cleared table = map faulty_role (take 128 table) ++ drop 128 table

front_long : (table : List ℕ) → 128 ≤ length table → length (map faulty_role (take 128 table)) ≡ 128
front_long table long = length_mapped faulty_role (take 128 table) ∙ length-take-le 128 table long

length_cleared : (table : List ℕ) → 128 ≤ length table → length (cleared table) ≡ length table
length_cleared table long = omega (arith, length-append (map faulty_role (take 128 table)) (drop 128 table), front_long table long, length-drop 128 table)

cleared_front : (table : List ℕ) (dev d : ℕ) → 128 ≤ length table → dev < 128 → get_or (cleared table) dev d ≡ faulty_role (get_or table dev d)
cleared_front table dev d long below =
    let enough : dev < length (map faulty_role (take 128 table)) = omega (arith, front_long table long, below) in
    let enough' : dev < length (take 128 table) = omega (arith, length-take-le 128 table long, below) in
    get_or_append_left (map faulty_role (take 128 table)) (drop 128 table) d dev enough ∙ mapped faulty_role (take 128 table) dev d enough' ∙ ap faulty_role (get_or-take 128 table dev d below)

cleared_back : (table : List ℕ) (dev d : ℕ) → 128 ≤ length table → 128 ≤ dev → get_or (cleared table) dev d ≡ get_or table dev d
cleared_back table dev d long late =
    let same : 128 + (dev - 128) ≡ dev = omega (arith, late) in
    get_or-append_right (map faulty_role (take 128 table)) (drop 128 table) 128 dev d (front_long table long) late ∙ get_or-drop 128 table (dev - 128) d ∙ ap (λ k. get_or table k d) same

-- the table keeps its length
pub length-any : (members : Members) (change : Change) (before lost : ℕ) (table : List ℕ) → length (with_roles members change before lost table) ≡ length table
length-any members change before lost table =
    length-entries (entry_for members change before lost) members.own 32 (cleared table)
    ∙ omega (
      arith,
      length-append (map faulty_role (take 128 table)) (drop 128 table),
      length_mapped faulty_role (take 128 table),
      length-append (take 128 table) (drop 128 table),
      ap (λ (l : List ℕ). length l) (take-append-drop 128 table),
    )

module _ (members : Members) (change : Change) (before lost : ℕ) (table : List ℕ) (long : 128 ≤ length table) where
  pub length-roles : length (with_roles members change before lost table) ≡ length table
  length-roles = length-entries (entry_for members change before lost) members.own 32 (cleared table) ∙ length_cleared table long

  pub roles-late : (dev d : ℕ) → 128 ≤ dev → get_or (with_roles members change before lost table) dev d ≡ get_or table dev d
  roles-late dev d late = late_entries (entry_for members change before lost) members.own 32 (cleared table) dev d late ∙ cleared_back table dev d long late

  -- a device's entry is that of a slot, or a role's became faulty
  pub roles-at : (dev d : ℕ) → dev < 128 → (get_or (with_roles members change before lost table) dev d ≡ faulty_role (get_or table dev d))
      ⊎ IsEntered (entry_for members change before lost) members.own 32 dev (get_or (with_roles members change before lost table) dev d)
  roles-at dev d below = ⊎_elim (λ same. inl (same ∙ cleared_front table dev d long below)) (λ entered. inr entered)
      (entries-at (entry_for members change before lost) members.own 32 (cleared table) dev d (omega (arith, length_cleared table long, long)))

  -- and that of its slot, where no slot gives it another one
  pub role-set : (s entry d : ℕ) (sb : Sb) → s < 32 → entry_for members change before lost s ≡ Some entry → own_in members.own s ≡ Some sb → sb.dev_number < 128
      → ((t other : ℕ) (a : Sb) → entry_for members change before lost t ≡ Some other → own_in members.own t ≡ Some a → a.dev_number ≡ sb.dev_number → other ≡ entry)
      → get_or (with_roles members change before lost table) sb.dev_number d ≡ entry
  role-set s entry d sb lt is held below only =
      entry-set (entry_for members change before lost) members.own 32 (cleared table) s entry d sb (omega (arith, length_cleared table long, long)) lt is held below only

-- a slot's entry that isn't the faulty number
pub entry-is : (before lost : Bool) (role : Option ℕ) (spare : Bool) (e : ℕ) → slot_entry before lost role spare ≡ Some e → e ≢ 0xfffe
    → (lost ≡ false) × ((role ≡ Some e) ⊎ ((e ≡ 0xffff) × (spare ≡ true)))
entry-is true true role spare e is not_faulty = absurd (cc)
entry-is false true role spare e is not_faulty = absurd (not_faulty (let same : Some 0xfffe ≡ Some e = is in let it : 0xfffe ≡ e = cc in sym it))
entry-is true false (Some role) spare e is not_faulty = (refl, inl is)
entry-is false false (Some role) spare e is not_faulty = (refl, inl is)
entry-is true false None true e is not_faulty = (refl, inr ((let it : 0xffff ≡ e = cc in sym it), refl))
entry-is true false None false e is not_faulty = absurd (cc)
entry-is false false None true e is not_faulty = (refl, inr ((let it : 0xffff ≡ e = cc in sym it), refl))
entry-is false false None false e is not_faulty = absurd (cc)

-- ---- numbers

is_below : (a b : ℕ) → a < b → nat_lt a b ≡ true
is_below a b h = grind (arith, nat_tests)

less : (a b : ℕ) → nat_lt a b ≡ true → a < b
less a b h = grind (arith, nat_tests)

equal : (a b : ℕ) → (a == b) ≡ true → a ≡ b
equal a b h = grind (arith, nat_tests)

not_most : (count entry : ℕ) → entry < count → nat_le count entry ≡ false
not_most count entry h = grind (arith, nat_tests)

differ_by : (a b : ℕ) → (a ≡ b → ⊥) → (a == b) ≡ false
differ_by a b h = elim (cases_eq a b) [
  | inl same ↦ absurd (h same)
  | inr apart ↦ grind (arith, nat_tests)
]

no_role_of_faulty : (entry : ℕ) → is_role (faulty_role entry) ≡ false
no_role_of_faulty entry = grind (arith, nat_tests)

spare_of_faulty : (entry : ℕ) → faulty_role entry ≡ 0xffff → entry ≡ 0xffff
spare_of_faulty entry h = omega (arith, h)

one_more : (n m : ℕ) → m < 2 ^ 62 → n ≡ min (m + 1) (2 ^ 64 - 1) → n ≡ m + 1
one_more n m h e = omega (arith, h, e)

and_true : (a b : Bool) → (a && b) ≡ true → (a ≡ true) × (b ≡ true)
and_true true b h = (refl, h)
and_true false b h = absurd (cc)

all_five : (a b c d e : Bool) → (a && b && c && d && e) ≡ true → (a ≡ true) × (b ≡ true) × (c ≡ true) × (d ≡ true) × (e ≡ true)
all_five true true true true true h = (refl, refl, refl, refl, refl)
all_five true true true true false h = absurd (cc)
all_five true true true false e h = absurd (cc)
all_five true true false d e h = absurd (cc)
all_five true false c d e h = absurd (cc)
all_five false b c d e h = absurd (cc)

-- ---- the plan

-- the next newest superblock: an event later, of the same size, with the entries of a change
pub record IsNext (members : Members) (change : Change) (before lost : ℕ) (former newest : Sb) : Type 0 where
  pub roles : newest.dev_roles ≡ with_roles members change before lost former.dev_roles
  pub room : newest.max_dev ≡ former.max_dev
  pub later : newest.events ≡ former.events + 1
  pub size : newest.size ≡ former.size
  pub fields : find (λ (f : ℕ × Bool). f.1) (judged_fields newest []) ≡ None
  pub count : role_count newest ≡ role_count (planned_newest change.shared members.newest)

-- Slots that are planned for, among them those that are written. Of the others only ones that count as lost are planned for, and these
-- get no role. None has the number of another that is planned for.
pub record IsPlanScope (scope : Scope) (lost gone left wide : ℕ) (members : Members) (change : Change) (former : Sb) (d : ℕ → ℕ → List Sector) : Type 0 where
  pub more : (s : ℕ) → has_slot lost s ≡ true → has_slot gone s ≡ true
  pub outer : (s : ℕ) → has_slot left s ≡ false → has_slot gone s ≡ false → has_slot wide s ≡ false
  pub role : (s t role : ℕ) → has_slot left s ≡ false → planned_role members.roles (give_of change.gives t) t ≡ Some role → has_slot wide t ≡ true → s ≢ t
  pub numbers : (s t : ℕ) (a sb : Sb) → s ≢ t → MayRead scope d s (Some a) → is_fresh former a ≡ true → has_slot wide t ≡ true → own_in members.own t ≡ Some sb → sb.dev_number ≢ a.dev_number

module _ (scope : Scope) (known lost gone left wide before : ℕ) (members : Members) (change : Change) (former newest : Sb) (own : List (Option Sb)) (d : ℕ → ℕ → List Sector)
    (held : AreHeld scope known gone former own d) (fits : IsFitChange known lost wide members change)
    (next : IsNext members change before lost former newest) (scoped : IsPlanScope scope lost gone left wide members change former d) where
  abbrev table : List ℕ
  table = with_roles members change before lost former.dev_roles

  long : 128 ≤ length former.dev_roles
  long = omega (arith, held.table)

  later : newest.events ≡ former.events + 1
  later = next.later

  entry_front : (dev : ℕ) → dev < 128 → entry_of newest dev ≡ get_or table dev 0xfffe
  entry_front dev h =
      (λ i. cond (nat_lt dev (next.room i)) (get_or (next.roles i) dev 0xfffe) 0xfffe)
      ∙ ap (λ b. cond b (get_or table dev 0xfffe) 0xfffe) (is_below dev former.max_dev (omega (arith, h, held.sound.room)))

  entry_former : (dev : ℕ) → dev < 128 → entry_of former dev ≡ get_or former.dev_roles dev 0xfffe
  entry_former dev h = ap (λ b. cond b (get_or former.dev_roles dev 0xfffe) 0xfffe) (is_below dev former.max_dev (omega (arith, h, held.sound.room)))

  late : HasNoLateRoles newest
  late dev h = (λ i. is_role (cond (nat_lt dev (next.room i)) (get_or (next.roles i) dev 0xfffe) 0xfffe)) ∙ ap (λ e. is_role (cond (nat_lt dev former.max_dev) e 0xfffe)) (roles-late members change before lost former.dev_roles long dev 0xfffe h) ∙ held.sound.late dev h

  by_roles : (dev : ℕ) → dev < 128 → (entry_of newest dev ≡ faulty_role (entry_of former dev)) ⊎ IsEntered (entry_for members change before lost) members.own 32 dev (entry_of newest dev)
  by_roles dev h = ⊎_elim
      (λ same. inl (entry_front dev h ∙ same ∙ ap faulty_role (sym (entry_former dev h))))
      (λ entered. inr (subst (λ (e : ℕ). IsEntered (entry_for members change before lost) members.own 32 dev e) (sym (entry_front dev h)) entered))
      (roles-at members change before lost former.dev_roles long dev 0xfffe h)

  -- the slot whose role an entry is
  abbrev HasRole : ℕ → ℕ → Type 0
  HasRole dev e = (t : ℕ) × (has_slot lost t ≡ false) × (planned_role members.roles (give_of change.gives t) t ≡ Some e) × (sb : Sb) × (own_in members.own t ≡ Some sb) × (sb.dev_number ≡ dev)

  role_entry : (dev e : ℕ) → IsEntered (entry_for members change before lost) members.own 32 dev e → e < 0xfffe → HasRole dev e
  role_entry dev e (t, lt, sb, is, own_is, number) small = of (entry-is (has_slot before t) (has_slot lost t) (planned_role members.roles (give_of change.gives t) t)
      (is_planned_spare members.spares change.added (give_of change.gives t) t) e is (λ same. absurd (omega (arith, same, small))))
    where
      of : (has_slot lost t ≡ false) × ((planned_role members.roles (give_of change.gives t) t ≡ Some e) ⊎ ((e ≡ 0xffff) × (is_planned_spare members.spares change.added (give_of change.gives t) t ≡ true))) → HasRole dev e
      of (none, inl role) = (t, none, role, sb, own_is, number)
      of (none, inr (spare, it)) = absurd (omega (arith, spare, small))

  -- no slot that isn't written holds a role
  no_holder : (s role : ℕ) (z : Sb) → has_slot left s ≡ false → role < 16 → MayRead scope d s (Some z) → holds_role newest role z ≡ true → ⊥
  no_holder s role z none h m holds =
      let parts = and_true (is_fresh newest z) (entry_of newest z.dev_number == role) holds in
      let at : entry_of newest z.dev_number ≡ role = equal (entry_of newest z.dev_number) role parts.1 in
      let fresh = fresh_back newest.events former.events z.events later parts.0 in
      elim (cases_lt z.dev_number 128) [
        | inl below ↦ ⊎_elim
            (λ faulty. absurd (let no = no_role_of_faulty (entry_of former z.dev_number) in let e = sym faulty ∙ at in omega (arith, e, h)))
            (λ entered.
            let r = role_entry z.dev_number (entry_of newest z.dev_number) entered (omega (arith, at, h)) in
            let is = fits.role r.0 (entry_of newest z.dev_number) r.1 r.2 in
            scoped.numbers s r.0 z r.3 (scoped.role s r.0 (entry_of newest z.dev_number) none r.2 is) m fresh is r.4 r.5)
            (by_roles z.dev_number below)
        | inr past ↦ absurd (let no = late z.dev_number past in let yes = is_below (entry_of newest z.dev_number) 0xfffe (omega (arith, at, h)) in let both = sym no ∙ yes in cc)
      ]

  no_role : (s role : ℕ) (found : Option Sb) → has_slot left s ≡ false → role < 16 → MayRead scope d s found → held_in newest role s found ≡ None
  no_role s role None none h m = refl
  no_role s role (Some z) none h m = ⊎_elim (λ holds. absurd (no_holder s role z none h m holds)) (λ not. ap (λ b. cond b (Some (state_of s z)) None) not) (by_bool (holds_role newest role z))

  -- none of them that wasn't lost is a spare
  no_spare_by : (s : ℕ) (z : Sb) → s < scope.sizes.slots → has_slot left s ≡ false → has_slot gone s ≡ false → MayRead scope d s (Some z)
      → is_spare newest (scope.sizes.sectors s) z ≡ true → ⊥
  no_spare_by s z there none left_ m spare =
      let p = all_five (is_fresh newest z) (not (is_recovering z)) (nat_lt z.dev_number 128) (entry_of newest z.dev_number == 0xffff) (lies_within newest (scope.sizes.sectors s) z) spare in
      let below : z.dev_number < 128 = less z.dev_number 128 p.2 in
      let at : entry_of newest z.dev_number ≡ 0xffff = equal (entry_of newest z.dev_number) 0xffff p.3 in
      let fresh = fresh_back newest.events former.events z.events later p.0 in
      let kept : has_slot lost s ≡ false = ⊎_elim (λ is. absurd (let both = sym (scoped.more s is) ∙ left_ in cc)) (λ no. no) (by_bool (has_slot lost s)) in
      let narrow : has_slot wide s ≡ false = scoped.outer s none left_ in
      let unknown : has_slot known s ≡ false = ⊎_elim (λ is. absurd (let both = sym (fits.written s is kept) ∙ narrow in cc)) (λ no. no) (by_bool (has_slot known s)) in
      ⊎_elim
      (λ faulty.
      let before_ : entry_of former z.dev_number ≡ 0xffff = spare_of_faulty (entry_of former z.dev_number) (sym faulty ∙ at) in
      let lies : lies_within former (scope.sizes.sectors s) z ≡ true = (λ i. nat_le 10 z.data_offset && nat_le (z.data_offset + sym next.size i) (scope.sizes.sectors s)) ∙ p.4 in
      let was : is_spare former (scope.sizes.sectors s) z ≡ true = (λ i. fresh i && p.1 i && p.2 i && (same_as before_) i && lies i) in
      absurd (let no = (held.others s there unknown).spare (Some z) left_ m in let both = sym was ∙ no in cc))
      (λ entered. spare_entry (entry_of newest z.dev_number) z.dev_number at entered (λ t_ is sb own_is number.
      scoped.numbers s t_ z sb (λ same. absurd (let both = sym narrow ∙ ap (has_slot wide) same ∙ is in cc)) m fresh is own_is number))
      (by_roles z.dev_number below)
    where
      same_as : {a : ℕ} → a ≡ 0xffff → (a == 0xffff) ≡ true
      same_as {a = a} e = ap (λ (n : ℕ). n == 0xffff) e

      spare_entry : (e dev : ℕ) → e ≡ 0xffff → IsEntered (entry_for members change before lost) members.own 32 dev e
          → ((t : ℕ) → has_slot wide t ≡ true → (sb : Sb) → own_in members.own t ≡ Some sb → sb.dev_number ≡ dev → ⊥) → ⊥
      spare_entry e dev at (t, lt, sb, is, own_is, number) never = of (entry-is (has_slot before t) (has_slot lost t) (planned_role members.roles (give_of change.gives t) t)
          (is_planned_spare members.spares change.added (give_of change.gives t) t) e is (λ same. absurd (omega (arith, same, at))))
        where
          of : (has_slot lost t ≡ false) × ((planned_role members.roles (give_of change.gives t) t ≡ Some e) ⊎ ((e ≡ 0xffff) × (is_planned_spare members.spares change.added (give_of change.gives t) t ≡ true))) → ⊥
          of (kept, inl role) = never t (fits.role t e kept role) sb own_is number
          of (kept, inr (is_e, spare_)) = never t (fits.spare t kept spare_) sb own_is number

  no_spare : (s : ℕ) (found : Option Sb) → s < scope.sizes.slots → has_slot left s ≡ false → has_slot gone s ≡ false → MayRead scope d s found → spare_in newest (scope.sizes.sectors s) found ≡ false
  no_spare s None there none left_ m = refl
  no_spare s (Some z) there none left_ m = ⊎_elim (λ is. absurd (no_spare_by s z there none left_ m is)) (λ no. no) (by_bool (is_spare newest (scope.sizes.sectors s) z))

  -- no role entry is bad
  role_at : (j : ℕ) → j < 128 → is_role (entry_of newest j) ≡ true → HasRole j (entry_of newest j)
  role_at j h is = ⊎_elim
      (λ faulty. absurd (let no = no_role_of_faulty (entry_of former j) in let both = sym (ap is_role faulty ∙ no) ∙ is in cc))
      (λ entered. role_entry j (entry_of newest j) entered (less (entry_of newest j) 0xfffe is))
      (by_roles j h)

  good_entry : (j : ℕ) → is_bad_entry newest j ≡ false
  good_entry j = ⊎_elim (λ is. elim (cases_lt j 128) [
    | inl below ↦
        let r = role_at j below is in
        let few : entry_of newest j < role_count newest = omega (arith, fits.below r.0 (entry_of newest j) r.1 r.2, next.count) in
        (λ i. is i && (not_most (role_count newest) (entry_of newest j) few i || any_below-none j (λ k. entry_of newest k == entry_of newest j) (λ k h. other k below h is r) i || not_late j below i))
    | inr past ↦ absurd (let both = sym (late j past) ∙ is in cc)
  ])
      (λ none. ap (λ b. b && (nat_le (role_count newest) (entry_of newest j) || any_below j (λ k. entry_of newest k == entry_of newest j) || nat_le 128 j)) none)
      (by_bool (is_role (entry_of newest j)))
    where
      not_late : (j : ℕ) → j < 128 → nat_le 128 j ≡ false
      not_late j h = grind (arith, nat_tests)

      other : (k : ℕ) → j < 128 → k < j → is_role (entry_of newest j) ≡ true → HasRole j (entry_of newest j) → (entry_of newest k == entry_of newest j) ≡ false
      other k below h is r = differ_by (entry_of newest k) (entry_of newest j) (λ same.
          let q = role_at k (omega (arith, h, below)) (ap is_role same ∙ is) in
          let one : q.0 ≡ r.0 = fits.one_holder q.0 r.0 (entry_of newest j) q.1 r.1 (q.2 ∙ ap (λ (e : ℕ). Some e) same) r.2 in
          let sbs : q.3 ≡ r.3 = (let both : Some q.3 ≡ Some r.3 = sym q.4 ∙ ap (own_in members.own) one ∙ r.4 in cc) in
          let numbers : k ≡ j = sym q.5 ∙ ap (λ (z : Sb). z.dev_number) sbs ∙ r.5 in
          absurd (omega (arith, numbers, h)))

  sound : IsSound newest
  sound = record {
    fields = ap₂ (λ (f : Option (ℕ × Bool)) (e : Option ℕ). option_or (option_map (λ (g : ℕ × Bool). BadField g.0) f) (option_map (λ (index : ℕ). BadField (256 + 2 * index)) e))
        next.fields (least_below-none 384 (is_bad_entry newest) (λ j h. good_entry j));
    room = omega (arith, held.sound.room, next.room);
    late = late;
  }

  device : (N : Sb) (g : Give) (sb : Sb) → is_recovery g ≡ false → KeepsRecovery g sb → IsDeviceKept N g sb
  device N Same sb none keeps = (recovering-same N sb, λ recovers. refl)
  device N Spare sb none keeps = (recovering-spare N sb, λ recovers. refl)
  device N (give.Role role None) sb none keeps = (recovering-none N sb role ∙ sym keeps, λ recovers. absurd (let both = sym keeps ∙ recovers in cc))
  device N (give.Role role (Some offset)) sb none keeps = absurd (cc)

  -- a device of a slot that is planned for, and wasn't given a role, has none
  pub idle-number : (t : ℕ) (sb : Sb) → sb.dev_number < 128 → ((s role : ℕ) (z : Sb) → planned_role members.roles (give_of change.gives s) s ≡ Some role → has_slot wide s ≡ true
      → own_in members.own s ≡ Some z → z.dev_number ≢ sb.dev_number) → (role : ℕ) → role < 16 → held_in newest role t (Some sb) ≡ None
  idle-number t sb below apart role h = ⊎_elim
      (λ holds. absurd (
      let parts = and_true (is_fresh newest sb) (entry_of newest sb.dev_number == role) holds in
      let at : entry_of newest sb.dev_number ≡ role = equal (entry_of newest sb.dev_number) role parts.1 in
      ⊎_elim
      (λ faulty. absurd (let no = no_role_of_faulty (entry_of former sb.dev_number) in let e = sym faulty ∙ at in omega (arith, e, h)))
      (λ entered.
      let r = role_entry sb.dev_number (entry_of newest sb.dev_number) entered (omega (arith, at, h)) in
      apart r.0 (entry_of newest sb.dev_number) r.3 r.2 (fits.role r.0 (entry_of newest sb.dev_number) r.1 r.2) r.4 r.5)
      (by_roles sb.dev_number below)))
      (λ not. ap (λ b. cond b (Some (state_of t sb)) None) not) (by_bool (holds_role newest role sb))

  -- whatever is given, where each slot keeps its recovery
  pub wide-fits : (gives : List Give) → ((s : ℕ) (sb : Sb) → has_slot left s ≡ true → own_in own s ≡ Some sb → KeepsRecovery (give_of gives s) sb)
      → ((s t : ℕ) → has_slot left s ≡ true → has_slot left t ≡ true → is_recovery (give_of gives s) ≡ true → is_recovery (give_of gives t) ≡ true → s ≡ t)
      → IsFitPlan scope gone former newest gives own left d
  wide-fits gives keeps one = record {
    sound = sound;
    table = ap length next.roles ∙ length-roles members change before lost former.dev_roles long ∙ held.table;
    later = later;
    size = next.size;
    role = λ s role found there none h m. no_role s role found none h m;
    spare = λ s found there none left_ m. no_spare s found there none left_ m;
    devices = λ s sb is own_is none. device newest (give_of gives s) sb none (keeps s sb is own_is);
    one = one;
  }

-- a slot that has no part shows a number of its own
pub shown-of : (scope : Scope) (known lost : ℕ) (former : Sb) (own : List (Option Sb)) (d : ℕ → ℕ → List Sector) → AreHeld scope known lost former own d → (s : ℕ) (a : Sb)
    → MayRead scope d s (Some a) → is_fresh former a ≡ true → (b : Sb) × Shows scope known own d s b × (is_fresh former b ≡ true) × (b.dev_number ≡ a.dev_number)
shown-of scope known lost former own d held s a m fresh = ⊎_elim
    (λ is.
    let k = held.each s is in
    let r = k.reads (Some a) m in
    let same : record r.0 { sb_csum = r.1.0 } ≡ a = (let both = r.1.1 in cc) in
    (k.sb, inl (is, k.own), k.fresh, sym r.2.number ∙ ap (λ (z : Sb). z.dev_number) same))
    (λ none. (a, inr (none, m), fresh, refl)) (by_bool (has_slot known s))

-- a known slot has no device of another
pub known-numbers : (scope : Scope) (known lost : ℕ) (former : Sb) (own : List (Option Sb)) (d : ℕ → ℕ → List Sector) → AreHeld scope known lost former own d → (s t : ℕ) (a z : Sb)
    → s ≢ t → MayRead scope d s (Some a) → is_fresh former a ≡ true → has_slot known t ≡ true → own_in own t ≡ Some z → z.dev_number ≢ a.dev_number
known-numbers scope known lost former own d held s t a z apart m fresh is own_is =
    let k = held.each t is in
    let same : k.sb ≡ z = (let both : Some k.sb ≡ Some z = sym k.own ∙ own_is in cc) in
    let shown = shown-of scope known lost former own d held s a m fresh in
    λ number. held.apart s t shown.0 k.sb apart shown.1 (inl (is, k.own)) shown.2 k.fresh (shown.3 ∙ sym number ∙ ap (λ (y : Sb). y.dev_number) (sym same))

-- where all slots that are planned for are written
pub next-fits : (scope : Scope) (known lost left before : ℕ) (members : Members) (change : Change) (former newest : Sb) (own : List (Option Sb)) (d : ℕ → ℕ → List Sector)
    → AreHeld scope known lost former own d → ((s : ℕ) → has_slot left s ≡ true → has_slot known s ≡ true) → IsFitChange known lost left members change
    → IsNext members change before lost former newest
    → ((t : ℕ) (sb z : Sb) → has_slot left t ≡ true → own_in members.own t ≡ Some sb → own_in own t ≡ Some z → z.dev_number ≡ sb.dev_number)
    → (gives : List Give) → ((s : ℕ) (sb : Sb) → has_slot left s ≡ true → own_in own s ≡ Some sb → KeepsRecovery (give_of gives s) sb)
    → ((s t : ℕ) → has_slot left s ≡ true → has_slot left t ≡ true → is_recovery (give_of gives s) ≡ true → is_recovery (give_of gives t) ≡ true → s ≡ t)
    → IsFitPlan scope lost former newest gives own left d
next-fits scope known lost left before members change former newest own d held within fits next one_device gives keeps one =
    wide-fits scope known lost lost left left before members change former newest own d held fits next
    (record {
      more = λ s is. is;
      outer = λ s none kept. none;
      role = λ s t role none is_role is same. absurd (let both = sym none ∙ ap (has_slot left) same ∙ is in cc);
      numbers = λ s t a sb apart m fresh is own_is number.
          let k = held.each t (within t is) in
          known-numbers scope known lost former own d held s t a k.sb apart m fresh (within t is) k.own (one_device t sb k.sb is own_is k.own ∙ number);
    })
    gives keeps one

pub plan-fits : (scope : Scope) (known lost left before : ℕ) (members : Members) (change : Change) (d : ℕ → ℕ → List Sector)
    → AreHeld scope known lost members.newest members.own d → ((s : ℕ) → has_slot left s ≡ true → has_slot known s ≡ true) → IsFitChange known lost left members change
    → IsFitPlan scope lost members.newest (next_newest members change before lost) change.gives members.own left d
plan-fits scope known lost left before members change d held within fits =
    next-fits scope known lost left before members change members.newest (next_newest members change before lost) members.own d held within fits
    (record {
      roles = refl;
      room = refl;
      later = one_more (next_newest members change before lost).events members.newest.events (few-events members.newest [] held.sound.fields) refl;
      size = fits.size;
      fields = fits.fields;
      count = refl;
    })
    (λ t sb z is own_is own_is'. let same : z ≡ sb = (let both : Some z ≡ Some sb = sym own_is' ∙ own_is in cc) in ap (λ (y : Sb). y.dev_number) same)
    change.gives fits.devices fits.one

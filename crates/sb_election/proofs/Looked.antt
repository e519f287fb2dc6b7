-- The slots are read one after another.
use Rattle.std.proofs.Common.{◌≡◌, ◌≢◌, ◌<◌, ◌≤◌, inl, inr, ℕ, ◌+◌, ◌-◌, ◌*◌, ◌^◌, ◌%◌, Bool, true, false, cond, nat_eq, nat_lt, refl, sym, ap, ap₂, ◌∙◌, subst, arith, bit_or, List, [], length, take, drop, set, get_or, Option, Some, None, IsTrue, IsFalse, replicate, length-set, get_or-set_same, get_or-set_other}
use Rattle.std.specs.Prelude.{not, ◌&&◌}
use Rattle.std.proofs.lemmas.List.{ext_get_or, get_or-take, get_or-drop, get_or-replicate, get_or_past, length-take-le, length-drop, length-replicate}
use Rattle.std.proofs.lemmas.Bool.{cases_eq, cases_lt}
use Rattle.std.proofs.lemmas.Bool.Decides.{nat_tests}
use Rattle.std.proofs.lemmas.Nat.Bits.{bit_at-zero}
use Rattle.sb_specs.specs.raid_types_Shapes.{has_slot}
use Rattle.sb_specs.specs.raid_types_Search.{tabulate}
use Rattle.sb_specs.proofs.raid_types_Tabulated.{length-tabulate, get_or-tabulate}
use Rattle.sb_specs.specs.sb_codec_the_Sb.{Sb}
use Rattle.sb_specs.specs.sb_codec_Superblock.{superblock_in}
use Rattle.sb_specs.specs.bank_Given.{Given, IsFaulted}
use Rattle.sb_specs.specs.bank_Tape.{Contents}
use Rattle.sb_specs.specs.Reading.{seen_superblock, is_backup}
use Rattle.sb_specs.specs.Found.{IsInSectors, AreInSectors}
use Rattle.sb_specs.specs.Writing.{IsMember, AreWritable}
use Rattle.sb_specs.specs.Election.{members_scope, seen_superblocks, is_member, OnlyMembersFail, AreLost}
use Rattle.sb_election.proofs.LostSlots.{has-all_but, has-one_more, has-other, fits-one_more}

-- Of the slots below n: what was found, which were lost, and which counts rose.
pub record IsRead (tells : Type 0) (given : Given) (backup : Option ℕ) (c : Contents) (n : ℕ) (seen : List (Option Sb)) (lost : ℕ)
    (before after : ℕ → ℕ) : Type 0 where
  pub count : length seen ≡ 32
  pub found : tells → (s : ℕ) → s < n → get_or seen s None ≡ seen_superblock (members_scope given backup lost []) c s
  pub rest : (s : ℕ) → n ≤ s → get_or seen s None ≡ None
  pub clear : (s : ℕ) → n ≤ s → has_slot lost s ≡ false
  pub failed : AreLost given backup lost before after
  pub faults : OnlyMembersFail given backup before after

-- ---- one slot

split : (a b : Bool) (x : Option Sb) → cond (a && not b) x None ≡ cond a (cond b None x) None
split true true x = refl
split true false x = refl
split false b x = refl

is_below : (s n : ℕ) → s < n → nat_lt s n ≡ true
is_below s n h = grind (arith, nat_tests)

-- what is seen of a slot that is there
at_slot : (given : Given) (backup : Option ℕ) (c : Contents) (lost s : ℕ) → lost < 2 ^ 32 → s < 32 → s < given.slots
    → seen_superblock (members_scope given backup lost []) c s
    ≡ cond (not (has_slot lost s)) (cond (is_backup backup s) None (superblock_in (given.sectors s) (c s))) None
at_slot given backup c lost s small within known =
    ap₂ (λ a t. cond (a && not (is_backup backup s)) (superblock_in (cond t (given.sectors s) 0) (c s)) None)
    (has-all_but lost s small within) (is_below s given.slots known)
    ∙ split (not (has_slot lost s)) (is_backup backup s) (superblock_in (given.sectors s) (c s))

-- what is seen of a slot goes by its own bit alone
same_bit : (given : Given) (backup : Option ℕ) (c : Contents) (lost more s : ℕ) → lost < 2 ^ 32 → more < 2 ^ 32 → s < 32 → s < given.slots
    → has_slot more s ≡ has_slot lost s
    → seen_superblock (members_scope given backup lost []) c s ≡ seen_superblock (members_scope given backup more []) c s
same_bit given backup c lost more s small small_too within known same =
    at_slot given backup c lost s small within known
    ∙ ap (λ b. cond (not b) (cond (is_backup backup s) None (superblock_in (given.sectors s) (c s))) None) (sym same)
    ∙ sym (at_slot given backup c more s small_too within known)

-- a failure stays one
still : (s : ℕ) (before mid after : ℕ → ℕ) → mid s ≤ after s → IsFaulted s before mid → IsFaulted s before after
still s before mid after rises (inl rose) = inl (omega (arith, rose, rises))
still s before mid after rises (inr full) = inr full

-- a failure counts from before
since : (s : ℕ) (before mid after : ℕ → ℕ) → before s ≤ mid s → mid s ≤ after s → IsFaulted s mid after → IsFaulted s before after
since s before mid after rose rises (inl now) = inl (omega (arith, rose, now))
since s before mid after rose rises (inr full) =
    elim (cases_eq (before s) (mid s)) [ inl same ↦ inr (same ∙ full) | inr apart ↦ inl (omega (arith, rose, rises, apart)) ]

member_of : (a b : Bool) → a ≡ true → (a && not b) ≡ false → b ≡ true
member_of true true e h = refl
member_of true false e h = absurd (cc)
member_of false b e h = absurd (cc)

is_member_of : (given : Given) (backup : Option ℕ) (s : ℕ) → s < given.slots → is_backup backup s ≡ false → is_member given backup s ≡ true
is_member_of given backup s known apart = ap₂ (λ a b. a && not b) (is_below s given.slots known) apart

-- the counts go on
on : (given : Given) (backup : Option ℕ) (n : ℕ) (before mid after : ℕ → ℕ) → n < given.slots → OnlyMembersFail given backup before mid
    → ((s : ℕ) → mid s ≤ after s) → ((s : ℕ) → s ≢ n → after s ≡ mid s) → (IsTrue (is_backup backup n) → after n ≡ mid n)
    → OnlyMembersFail given backup before after
on given backup n before mid after known was rises others is_kept = record {
  never_falls = λ s. omega (arith, was.never_falls s, rises s);
  others = λ s not_one. elim (cases_eq s n) [
    | inl same ↦ subst (λ k. IsFalse (is_member given backup k) → after k ≡ mid k) (sym same)
        (λ h. is_kept (member_of (nat_lt n given.slots) (is_backup backup n) (is_below n given.slots known) h)) not_one ∙ was.others s not_one
    | inr apart ↦ others s apart ∙ was.others s not_one
  ];
}

-- ---- turn by turn

pub none_lost : (s : ℕ) → has_slot 0 s ≡ false
none_lost s = ap (λ b. nat_eq b 1) (bit_at-zero s)

pub read-none : (tells : Type 0) (given : Given) (backup : Option ℕ) (c : Contents) (faults : ℕ → ℕ)
    → IsRead tells given backup c 0 (replicate 32 None) 0 faults faults
read-none tells given backup c faults = record {
  count = refl;
  found = λ told s h. absurd (omega (arith, h));
  rest = λ s h. elim (cases_lt s 32) [ inl below ↦ get_or-replicate 32 s None None below | inr past ↦ get_or_past (replicate 32 None) s None past ];
  clear = λ s h. none_lost s;
  failed = record { members = λ s h. absurd (cc (none_lost s)); failed = λ s h. absurd (cc (none_lost s)) };
  faults = record { never_falls = λ s. omega arith; others = λ s h. refl };
}

pub read-found : (tells : Type 0) (given : Given) (backup : Option ℕ) (c : Contents) (n : ℕ) (seen : List (Option Sb)) (lost : ℕ)
    (before mid after : ℕ → ℕ) (sb : Option Sb) → lost < 2 ^ 32 → n < 32 → n < given.slots
    → IsRead tells given backup c n seen lost before mid
    → (tells → sb ≡ cond (is_backup backup n) None (superblock_in (given.sectors n) (c n)))
    → ((s : ℕ) → mid s ≤ after s) → ((s : ℕ) → s ≢ n → after s ≡ mid s) → (IsTrue (is_backup backup n) → after n ≡ mid n)
    → IsRead tells given backup c (n + 1) (set seen n sb) lost before after
read-found tells given backup c n seen lost before mid after sb small within known was is rises others is_kept = record {
  count = length-set seen n sb ∙ was.count;
  found = λ told s h. elim (cases_eq s n) [
    | inl same ↦ subst (λ k. get_or (set seen n sb) k None ≡ seen_superblock (members_scope given backup lost []) c k) (sym same)
        (get_or-set_same seen n sb None (omega (arith, was.count, within)) ∙ is told
        ∙ ap (λ b. cond (not b) (cond (is_backup backup n) None (superblock_in (given.sectors n) (c n))) None) (sym (was.clear n (omega arith)))
        ∙ sym (at_slot given backup c lost n small within known))
    | inr apart ↦ get_or-set_other seen n s sb None apart ∙ was.found told s (omega (arith, h, apart))
  ];
  rest = λ s h. get_or-set_other seen n s sb None (λ e. absurd (omega (arith, e, h))) ∙ was.rest s (omega (arith, h));
  clear = λ s h. was.clear s (omega (arith, h));
  failed = record { members = was.failed.members; failed = λ s h. still s before mid after (rises s) (was.failed.failed s h) };
  faults = on given backup n before mid after known was.faults rises others is_kept;
}

-- the backup still has none
pub aside-found : (backup : Option ℕ) (n : ℕ) (seen : List (Option Sb)) (sb : Option Sb) → n < length seen → ((s : ℕ) → IsTrue (is_backup backup s) → get_or seen s None ≡ None)
    → (IsTrue (is_backup backup n) → sb ≡ None) → (s : ℕ) → IsTrue (is_backup backup s) → get_or (set seen n sb) s None ≡ None
aside-found backup n seen sb within was none s is = elim (cases_eq s n) [
  | inl same ↦ subst (λ k. get_or (set seen n sb) k None ≡ None) (sym same)
      (get_or-set_same seen n sb None within ∙ none (subst (λ k. IsTrue (is_backup backup k)) same is))
  | inr apart ↦ get_or-set_other seen n s sb None apart ∙ was s is
]

pub aside-none : (backup : Option ℕ) (s : ℕ) → IsTrue (is_backup backup s) → ◌≡◌ {A = Option Sb} (get_or (replicate 32 None) s None) None
aside-none backup s is = elim (cases_lt s 32) [ inl below ↦ get_or-replicate 32 s None None below | inr past ↦ get_or_past (replicate 32 None) s None past ]

pub read-lost : (tells : Type 0) (given : Given) (backup : Option ℕ) (c : Contents) (n : ℕ) (seen : List (Option Sb)) (lost : ℕ)
    (before mid after : ℕ → ℕ) → lost < 2 ^ 32 → n < 32 → n < given.slots → given.slots ≤ 32
    → IsRead tells given backup c n seen lost before mid
    → ((s : ℕ) → mid s ≤ after s) → ((s : ℕ) → s ≢ n → after s ≡ mid s) → IsFaulted n mid after → is_backup backup n ≡ false
    → IsRead tells given backup c (n + 1) seen (bit_or lost (1 * 2 ^ n % 2 ^ 32)) before after
read-lost tells given backup c n seen lost before mid after small within known few was rises others failed member = record {
  count = was.count;
  found = λ told s h. elim (cases_eq s n) [
    | inl same ↦ subst (λ k. get_or seen k None ≡ seen_superblock (members_scope given backup more []) c k) (sym same)
        (was.rest n (omega arith)
        ∙ ap (λ b. cond (not b) (cond (is_backup backup n) None (superblock_in (given.sectors n) (c n))) None) (sym (has-one_more lost n within))
        ∙ sym (at_slot given backup c more n (fits-one_more lost n small) within known))
    | inr apart ↦ was.found told s (omega (arith, h, apart))
        ∙ same_bit given backup c lost more s small (fits-one_more lost n small) (omega (arith, h, within)) (omega (arith, h, known)) (has-other lost n s within apart)
  ];
  rest = λ s h. was.rest s (omega (arith, h));
  clear = λ s h. has-other lost n s within (λ e. absurd (omega (arith, e, h))) ∙ was.clear s (omega (arith, h));
  failed = record {
    members = λ s h. elim (cases_eq s n) [
      | inl same ↦ ap (is_member given backup) same ∙ is_member_of given backup n known member
      | inr apart ↦ was.failed.members s (sym (has-other lost n s within apart) ∙ h)
    ];
    failed = λ s h. elim (cases_eq s n) [
      | inl same ↦ subst (λ k. IsFaulted k before after) (sym same) (since n before mid after (was.faults.never_falls n) (rises n) failed)
      | inr apart ↦ still s before mid after (rises s) (was.failed.failed s (sym (has-other lost n s within apart) ∙ h))
    ];
  };
  faults = on given backup n before mid after known was.faults rises others (λ is. absurd (cc));
}
  where
    more : ℕ
    more = bit_or lost (1 * 2 ^ n % 2 ^ 32)

-- ---- at the end

-- the list of what was found
pub read-seen : {tells : Type 0} {given : Given} {backup : Option ℕ} {c : Contents} {n : ℕ} {seen : List (Option Sb)} {lost : ℕ} {before after : ℕ → ℕ}
    → given.slots ≤ 32 → n ≡ given.slots → IsRead tells given backup c n seen lost before after
    → tells → take given.slots seen ≡ seen_superblocks (members_scope given backup lost []) c
read-seen {given = given} {backup = backup} {c = c} {n = n} {seen = seen} {lost = lost} few all read told =
    let f : ℕ → Option Sb = seen_superblock (members_scope given backup lost []) c in
    let long : length (take given.slots seen) ≡ given.slots = length-take-le given.slots seen (omega (arith, read.count, few)) in
    ext_get_or None (take given.slots seen) (tabulate given.slots f) (long ∙ sym (length-tabulate given.slots f))
    (λ i h. let below : i < given.slots = omega (arith, h, long) in
    get_or-take given.slots seen i None below ∙ read.found told i (omega (arith, below, all)) ∙ sym (get_or-tabulate given.slots f i None below))

pub read-rest : {tells : Type 0} {given : Given} {backup : Option ℕ} {c : Contents} {n : ℕ} {seen : List (Option Sb)} {lost : ℕ} {before after : ℕ → ℕ}
    → given.slots ≤ 32 → n ≡ given.slots → IsRead tells given backup c n seen lost before after
    → drop given.slots seen ≡ replicate (32 - given.slots) None
read-rest {given = given} {n = n} {seen = seen} few all read =
    let long : length (drop given.slots seen) ≡ 32 - given.slots = length-drop given.slots seen ∙ ap (λ k. k - given.slots) read.count in
    ext_get_or None (drop given.slots seen) (replicate (32 - given.slots) None) (long ∙ sym (length-replicate (32 - given.slots) None))
    (λ i h. get_or-drop given.slots seen i None ∙ read.rest (given.slots + i) (omega (arith, all))
    ∙ sym (get_or-replicate (32 - given.slots) i None None (omega (arith, h, long))))

-- under other names
pub read-as : {tells : Type 0} {given : Given} {backup : Option ℕ} {c : Contents} {n : ℕ} {seen seen' : List (Option Sb)} {lost lost' : ℕ}
    {before after : ℕ → ℕ} → seen' ≡ seen → lost' ≡ lost → IsRead tells given backup c n seen lost before after
    → IsRead tells given backup c n seen' lost' before after
read-as {tells = tells} {given = given} {backup = backup} {c = c} {n = n} {seen = seen} {seen' = seen'} {lost = lost} {before = before} {after = after} e f read =
    subst (λ k. IsRead tells given backup c n seen' k before after) (sym f) (subst (λ s. IsRead tells given backup c n s lost before after) (sym e) read)

-- ---- what was found stands in sectors

pub sectors-none : (c : Contents) → AreInSectors c (replicate 32 None)
sectors-none c s sb e = elim (cases_lt s 32) [
  | inl below ↦ absurd (contrary (sym (get_or-replicate 32 s None None below) ∙ e))
  | inr past ↦ absurd (contrary (sym (get_or_past (replicate 32 None) s None past) ∙ e))
]
  where
    contrary : ◌≡◌ {A = Option Sb} None (Some sb) → ⊥
    contrary e = absurd (cc)

pub sectors-found : (c : Contents) (seen : List (Option Sb)) (n : ℕ) (found : Option Sb) → n < length seen → AreInSectors c seen
    → ((sb : Sb) → found ≡ Some sb → IsInSectors (c n)) → AreInSectors c (set seen n found)
sectors-found c seen n found within was is s sb e = elim (cases_eq s n) [
  | inl same ↦ subst (λ k. IsInSectors (c k)) (sym same)
      (is sb (sym (get_or-set_same seen n found None within) ∙ subst (λ k. get_or (set seen n found) k None ≡ Some sb) same e))
  | inr apart ↦ was s sb (sym (get_or-set_other seen n s found None apart) ∙ e)
]

-- ---- what was found can be written again

pub writable-none : (given : Given) → AreWritable given (replicate 32 None)
writable-none given s sb e = elim (cases_lt s 32) [
  | inl below ↦ absurd (contrary (sym (get_or-replicate 32 s None None below) ∙ e))
  | inr past ↦ absurd (contrary (sym (get_or_past (replicate 32 None) s None past) ∙ e))
]
  where
    contrary : ◌≡◌ {A = Option Sb} None (Some sb) → ⊥
    contrary e = absurd (cc)

pub writable-found : (given : Given) (seen : List (Option Sb)) (n : ℕ) (found : Option Sb) → n < length seen → AreWritable given seen
    → ((sb : Sb) → found ≡ Some sb → IsMember given (Some sb) n) → AreWritable given (set seen n found)
writable-found given seen n found within was is s sb e = elim (cases_eq s n) [
  | inl same ↦ subst (λ k. IsMember given (Some sb) k) (sym same)
      (is sb (sym (get_or-set_same seen n found None within) ∙ subst (λ k. get_or (set seen n found) k None ≡ Some sb) same e))
  | inr apart ↦ was s sb (sym (get_or-set_other seen n s found None apart) ∙ e)
]

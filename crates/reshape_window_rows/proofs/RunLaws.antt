-- The writes of a run of rows: what one call leaves at each mark and in the end, and how one role's goes on over the others'.
use Rattle.std.proofs.Common.{◌≡◌, ◌≢◌, ◌⊎◌, inl, inr, ℕ, zero, suc, ◌+◌, ◌-◌, ◌*◌, ◌<◌, ◌≤◌, ◌==◌, Bool, true, false, if◌then◌else◌, List, [], ◌∷◌, ◌++◌, take, drop, bit_or, Option, Some, None, append-nil, eq-eqb, refl, sym, ◌∙◌, ap, subst, arith}
use Rattle.std.proofs.lemmas.Bool.{cases_eq}
use Rattle.std.proofs.lemmas.Bool.Decides.{nat_tests}
use Rattle.std.proofs.lemmas.List.{drop-drop}
use Rattle.std.proofs.lemmas.Nat.{le_or_l}
use Rattle.raid_layout.specs.raid_types_the_Shape.{Shape}
use Rattle.raid_layout.specs.raid_types_Sectors.{Sector}
use Rattle.raid_layout.specs.raid_types_Shapes.{has_slot}
use Rattle.reshape_begin_end.specs.bank_Given.{Given}
use Rattle.reshape_begin_end.specs.bank_the_Operation.{Operation}
use Rattle.reshape_begin_end.specs.bank_the_Operation_TheVariants.{Write}
use Rattle.reshape_begin_end.specs.bank_Tape.{Contents, EachMark, disk, run, choices, writes}
use Rattle.reshape_begin_end.proofs.bank_Laws.{disk-append, choices_after-write_here, choices_after-write_other}
use Rattle.reshape_begin_end.proofs.bank_Marks.{Along, each_mark-along, each_mark-map, each_mark-then, each_mark-told}
use Rattle.reshape_begin_end.specs.raid_parity_Rows.{sector_of}
use Rattle.reshape_begin_end.specs.sb_specs_the_Members.{Members}
use Rattle.reshape_begin_end.specs.sb_specs_Reading.{Reading, role_state, holder, data_offset_of}
use Rattle.reshape_begin_end.specs.stripe_row_Rows.{present, reading_of, members_without}
use Rattle.reshape_begin_end.specs.stripe_row_Writes.{AreApart}
use Rattle.reshape_begin_end.proofs.stripe_row_Losses.{holder-of, holder-after, state_after, state_kept}
use Rattle.reshape_begin_end.proofs.stripe_row_Turns.{marks_last}
use Rattle.reshape_begin_end.proofs.stripe_row_Written.{present-is, present-same}
use Rattle.reshape_begin_end.specs.stripe_list_Buffers.{buffered}
use Rattle.reshape_begin_end.specs.stripe_list_Full.{full_sector}
use Rattle.reshape_begin_end.specs.stripe_list_Writing.{IsFull, IsRowKept}
use Rattle.reshape_window_rows.specs.Copies.{IsChangedAt, IsRowsPlace}
use Rattle.reshape_window_rows.specs.Runs.{reach, HasRun, IsRolePlace}

-- ---- one call's operations

changed_write : (P : ℕ → ℕ → Type 0) (d e : ℕ → ℕ → List Sector) (t j : ℕ) (w : Sector) → P t j → IsChangedAt P d e → IsChangedAt P d (run e (Write t j w ∷ []))
changed_write P d e t j w place so_far s k = elim (cases_eq t s) [
  | inl same ↦ elim (cases_eq j k) [
    | inl here ↦ inr (subst (λ (u : ℕ). P u k) same (subst (λ (i : ℕ). P t i) here place))
    | inr other ↦ unchanged (inr other)
  ]
  | inr other ↦ unchanged (inl other)
]
  where
    unchanged : (t ≢ s) ⊎ (j ≢ k) → (run e (Write t j w ∷ []) s k ≡ d s k) ⊎ P s k
    unchanged other = subst (λ (l : List Sector). (l ≡ d s k) ⊎ P s k) (sym (choices_after-write_other s k t j w (e s k) other)) (so_far s k)

-- the first few of them touch their places alone
pub along_writes : (P : ℕ → ℕ → Type 0) (d e : ℕ → ℕ → List Sector) (t j n m : ℕ) (bytes : List ℕ) → ((i : ℕ) → i < n → P t (j + i)) → IsChangedAt P d e → Along (IsChangedAt P d) e (take m (writes t j n bytes))
along_writes P d e t j zero zero bytes places so_far = so_far
along_writes P d e t j zero (suc m) bytes places so_far = so_far
along_writes P d e t j (suc n) zero bytes places so_far = so_far
along_writes P d e t j (suc n) (suc m) bytes places so_far =
    let first : j + 0 ≡ j = omega arith in (
      so_far,
      along_writes P d (run e (Write t j (take 512 bytes) ∷ [])) t (j + 1) n m (drop 512 bytes)
          (λ i lt. let next : j + suc i ≡ (j + 1) + i = omega arith in subst (λ (k : ℕ). P t k) next (places (suc i) (omega (arith, lt))))
          (changed_write P d e t j (take 512 bytes) (subst (λ (k : ℕ). P t k) first (places 0 (omega arith))) so_far),
    )

past_writes : (s p n j : ℕ) (bytes : List ℕ) (vs : List Sector) → p < j → choices s p vs (writes s j n bytes) ≡ vs
past_writes s p zero j bytes vs lt = refl
past_writes s p (suc n) j bytes vs lt =
    ap (λ (l : List Sector). choices s p l (writes s (j + 1) n (drop 512 bytes))) (choices_after-write_other s p s j (take 512 bytes) vs (inr (λ same. omega (arith, lt, same))))
    ∙ past_writes s p n (j + 1) (drop 512 bytes) vs (omega (arith, lt))

-- and all of them leave each sector in its place
here_writes : (s p n j i : ℕ) (bytes : List ℕ) (vs : List Sector) → p ≡ j + i → i < n → choices s p vs (writes s j n bytes) ≡ take 512 (drop (512 * i) bytes) ∷ vs
here_writes s p zero j i bytes vs is lt = absurd (omega (arith, lt))
here_writes s p (suc n) j zero bytes vs is lt =
    let same : j ≡ p = omega (arith, is) in
    ap (λ (l : List Sector). choices s p l (writes s (j + 1) n (drop 512 bytes)))
    (subst (λ (k : ℕ). choices s p vs (Write s k (take 512 bytes) ∷ []) ≡ take 512 bytes ∷ vs) (sym same) (choices_after-write_here s p (take 512 bytes) vs))
    ∙ past_writes s p n (j + 1) (drop 512 bytes) (take 512 bytes ∷ vs) (omega (arith, is))
here_writes s p (suc n) j (suc i) bytes vs is lt =
    let far : 512 + 512 * i ≡ 512 * suc i = omega arith in
    ap (λ (l : List Sector). choices s p l (writes s (j + 1) n (drop 512 bytes))) (choices_after-write_other s p s j (take 512 bytes) vs (inr (λ same. omega (arith, is, same))))
    ∙ here_writes s p n (j + 1) i (drop 512 bytes) vs (omega (arith, is)) (omega (arith, lt))
    ∙ ap (λ (l : List ℕ). take 512 l ∷ vs) (drop-drop (512 * i) 512 bytes ∙ ap (λ (m : ℕ). drop m bytes) far)

plain : (bytes : List ℕ) (i : ℕ) → sector_of bytes i ≡ take 512 (drop (512 * i) bytes)
plain bytes i =
    let n : 512 * i + 512 - 512 * i ≡ 512 = omega arith in
    ap (λ (m : ℕ). take m (drop (512 * i) bytes)) n

pub writes_present : (given given' : Given) (old new : List Operation) (s j n i : ℕ) (bytes : List ℕ) → given' ≡ given → new ≡ old ++ writes s j n bytes → i < n → present given' new s (j + i) ≡ sector_of bytes i
writes_present given given' old new s j n i bytes same is lt =
    let after : disk given.start new s (j + i) ≡ choices s (j + i) (disk given.start old s (j + i)) (writes s j n bytes) =
    ap (λ (l : List Operation). disk given.start l s (j + i)) is ∙ ap (λ (d : ℕ → ℕ → List Sector). d s (j + i)) (disk-append given.start old (writes s j n bytes)) in
    ap (λ (g : Given). present g new s (j + i)) same
    ∙ present-is given new s (j + i) (take 512 (drop (512 * i) bytes)) (disk given.start old s (j + i))
    (after ∙ here_writes s (j + i) n j i bytes (disk given.start old s (j + i)) refl lt)
    ∙ sym (plain bytes i)

-- a call that was to write a run of a slot's sectors, at each of its marks
pub run_marks : {tells : Type 0} (start : ℕ → ℕ → Sector) (P : ℕ → ℕ → Type 0) (s j n : ℕ) (bytes : List ℕ) (old new : List Operation) → ((i : ℕ) → i < n → P s (j + i))
    → (tells → (m : ℕ) × (new ≡ old ++ take m (writes s j n bytes))) → EachMark tells start old new (IsChangedAt P (disk start old))
run_marks {tells = tells} start P s j n bytes old new places did = each_mark-told (λ told.
    let some = did told in
    subst (λ (l : List Operation). EachMark tells start old l (IsChangedAt P (disk start old))) (sym some.1)
    (each_mark-along tells start old (take some.0 (writes s j n bytes)) (IsChangedAt P (disk start old))
    (along_writes P (disk start old) (disk start old) s j n some.0 bytes places (λ t k. inl refl))))

-- nothing was written
pub marks_same : {tells : Type 0} (start : ℕ → ℕ → Sector) (P : ℕ → ℕ → Type 0) (old : List Operation) → EachMark tells start old old (IsChangedAt P (disk start old))
marks_same {tells = tells} start P old =
    subst (λ (l : List Operation). EachMark tells start old l (IsChangedAt P (disk start old))) (append-nil old)
    (each_mark-along tells start old [] (IsChangedAt P (disk start old)) (λ t k. inl refl))

-- ---- one role's run

pub role_place : (r : Reading) (role from n s at : ℕ) → holder (role_state r role) ≡ Some s → at ≡ data_offset_of r s + from → (i : ℕ) → i < n → IsRolePlace r role from n s (at + i)
role_place r role from n s at held is i lt = record { row = from + i; held = held; low = omega arith; high = omega (arith, lt); place = omega (arith, is) }

pub run_written : (r : Reading) (role from n s at : ℕ) (given given' : Given) (old new : List Operation) (bytes : List ℕ) → holder (role_state r role) ≡ Some s → at ≡ data_offset_of r s + from → given' ≡ given
    → new ≡ old ++ writes s at n bytes → HasRun r (present given' new) role from n (sector_of bytes)
run_written r role from n s at given given' old new bytes has is same did slot i held lt =
    let e : ◌≡◌ {A = Option ℕ} (Some s) (Some slot) = sym has ∙ held in
    let one : s ≡ slot = cc in
    let there : data_offset_of r s + (from + i) ≡ at + i = omega (arith, is) in
    subst (λ (u : ℕ). present given' new u (data_offset_of r u + (from + i)) ≡ sector_of bytes i) one
    (ap (λ (k : ℕ). present given' new s k) there ∙ writes_present given given' old new s at n i bytes same did lt)

-- a role without a slot has none, and neither has one whose slot is lost
pub run_none : (r : Reading) (c : Contents) (role from n : ℕ) (sectors : ℕ → Sector) → holder (role_state r role) ≡ None → HasRun r c role from n sectors
run_none r c role from n sectors none slot i held lt = absurd (let e : ◌≡◌ {A = Option ℕ} None (Some slot) = sym none ∙ held in cc)

pub run_lost : (m new : Members) (lost role slot from n : ℕ) (c : Contents) (sectors : ℕ → Sector) → new ≡ members_without lost m → ((s : ℕ) → has_slot lost s ≡ (slot == s))
    → holder (role_state (reading_of m) role) ≡ Some slot → HasRun (reading_of new) c role from n sectors
run_lost m new lost role slot from n c sectors is alone has =
    subst (λ (k : Members). HasRun (reading_of k) c role from n sectors) (sym is) (λ s i held lt.
    let kept = state_kept lost s (role_state (reading_of m) role) (ap holder (sym (state_after m lost role)) ∙ held) in
    let e : ◌≡◌ {A = Option ℕ} (Some slot) (Some s) = sym has ∙ kept.holder in
    let one : slot ≡ s = cc in
    let gone : has_slot lost s ≡ true = alone s ∙ eq-eqb slot s one in
    let here = kept.here in
    absurd (cc))

-- ---- one role after another

changed_then : (P Q : ℕ → ℕ → Type 0) (d e f : ℕ → ℕ → List Sector) → ((s k : ℕ) → Q s k → P s k) → IsChangedAt P d e → IsChangedAt Q e f → IsChangedAt P d f
changed_then P Q d e f wider one two s k = at (one s k) (two s k)
  where
    at : (e s k ≡ d s k) ⊎ P s k → (f s k ≡ e s k) ⊎ Q s k → (f s k ≡ d s k) ⊎ P s k
    at (inl same) (inl still) = inl (still ∙ same)
    at (inr place) there = inr place
    at (inl same) (inr place) = inr (wider s k place)

-- what was changed by two calls, at each mark
pub marks_then : {tells : Type 0} (start start' : Given) (P Q : ℕ → ℕ → Type 0) (old mid new : List Operation) → start' ≡ start → ((s k : ℕ) → Q s k → P s k)
    → EachMark tells start.start old mid (IsChangedAt P (disk start.start old)) → EachMark tells start'.start mid new (IsChangedAt Q (disk start'.start mid))
    → EachMark tells start.start old new (IsChangedAt P (disk start.start old))
marks_then {tells = tells} start start' P Q old mid new same wider marks more =
    each_mark-then marks (each_mark-map (IsChangedAt P (disk start.start old))
    (λ told e next. changed_then P Q (disk start.start old) (disk start.start mid) e wider (marks_last {P = IsChangedAt P (disk start.start old)} marks told) next)
    (subst (λ (s : Given). EachMark tells s.start mid new (IsChangedAt Q (disk s.start mid))) same more))

-- a role's place is one of the rows'
pub role_rows : (old mid : Members) (lost role from n count : ℕ) → mid ≡ members_without lost old → n ≤ count → (s k : ℕ) → IsRolePlace (reading_of mid) role from n s k → IsRowsPlace (reading_of old) from (from + count) s k
role_rows old mid lost role from n count is le s k there =
    let there' : IsRolePlace (reading_of (members_without lost old)) role from n s k = subst (λ (m : Members). IsRolePlace (reading_of m) role from n s k) is there in
    record {
      role = role;
      row = there'.row;
      held = holder-after old lost role s there'.held;
      low = there'.low;
      high = let high = there'.high in omega (arith, high, le);
      place = there'.place;
    }

-- no slot holds two roles after a loss
pub apart_by : (old mid : Members) (lost : ℕ) → mid ≡ members_without lost old → AreApart (reading_of old) → AreApart (reading_of mid)
apart_by old mid lost is apart = subst (λ (m : Members). AreApart (reading_of m)) (sym is) (λ a b slot one two. apart a b slot (holder-after old lost a slot one) (holder-after old lost b slot two))

-- another role's run stays as it is while this one's is written, whatever is lost
pub run_kept : (mid new : Members) (lost role other from n m count : ℕ) (given given' : Given) (old tape : List Operation) (sectors : ℕ → Sector) → new ≡ members_without lost mid → given' ≡ given
    → AreApart (reading_of mid) → other ≢ role → m ≤ n → IsChangedAt (IsRolePlace (reading_of mid) role from count) (disk given.start old) (disk given.start tape)
    → HasRun (reading_of mid) (present given old) other from n sectors → HasRun (reading_of new) (present given' tape) other from m sectors
run_kept mid new lost role other from n m count given given' old tape sectors is same apart ne le changed was =
    subst (λ (k : Members). HasRun (reading_of k) (present given' tape) other from m sectors) (sym is) (λ slot i held lt.
    let held' : holder (role_state (reading_of mid) other) ≡ Some slot = holder-after mid lost other slot held in
    let k : ℕ = data_offset_of (reading_of mid) slot + (from + i) in
    ap (λ (g : Given). present g tape slot k) same ∙ present-same given old tape slot k (still slot k held' (changed slot k)) ∙ was slot i held' (omega (arith, lt, le)))
  where
    still : (slot k : ℕ) → holder (role_state (reading_of mid) other) ≡ Some slot
        → (disk given.start tape slot k ≡ disk given.start old slot k) ⊎ IsRolePlace (reading_of mid) role from count slot k → disk given.start tape slot k ≡ disk given.start old slot k
    still slot k held (inl it) = it
    still slot k held (inr there) = absurd (ne (apart other role slot held there.held))

-- fewer rows of a run
pub run_fewer : (r : Reading) (c : Contents) (role from n m : ℕ) (sectors : ℕ → Sector) → m ≤ n → HasRun r c role from n sectors → HasRun r c role from m sectors
run_fewer r c role from n m sectors le has slot i held lt = has slot i held (omega (arith, lt, le))

pub reach_within : (lost count : ℕ) → 0 < count → (0 < reach lost count) × (reach lost count ≤ count)
reach_within lost count some = by (lost == 0)
  where
    by : (b : Bool) → (0 < (if b then count else 1)) × ((if b then count else 1) ≤ count)
    by true = (some, omega arith)
    by false = (omega arith, omega (arith, some))

pub reach_one : (lost count : ℕ) → lost ≢ 0 → reach lost count ≡ 1
reach_one lost count ne = by (lost == 0) refl
  where
    by : (b : Bool) → lost == 0 ≡ b → (if b then count else 1) ≡ 1
    by true is = absurd (let zero : lost ≡ 0 = grind (arith, nat_tests, is) in ne zero)
    by false is = refl

-- it falls with each loss
pub reach_falls : (a b count : ℕ) → 0 < count → reach (bit_or a b) count ≤ reach a count
reach_falls a b count some = elim (cases_eq a 0) [
  | inl none ↦
      let all : reach a count ≡ count = ap (λ (n : ℕ). reach n count) none in
      let most = (reach_within (bit_or a b) count some).1 in
      omega (arith, all, most)
  | inr ne ↦
      let more : bit_or a b ≢ 0 = λ zero. ne (let le = le_or_l a b in omega (arith, le, zero)) in
      let one = reach_one (bit_or a b) count more in
      let one' = reach_one a count ne in
      omega (arith, one, one')
]

-- ---- the rows

-- runs of all roles are full rows
pub runs_full : (r : Reading) (c : Contents) (shape : Shape) (list : ℕ → Sector) (from i n : ℕ) (rows : List ℕ) → i < n
    → ((role : ℕ) → role < shape.disks → HasRun r c role from n (λ j. buffered rows j role)) → ((role : ℕ) → role < shape.disks → buffered rows i role ≡ full_sector shape list (from + i) role)
    → IsFull r c shape list (from + i)
runs_full r c shape list from i n rows lt runs full role slot low held = runs role low slot i (holder-of r role (from + i) slot held) lt ∙ full role low

-- rows apart from these are as they were
pub rows_kept : (r : Reading) (from to : ℕ) (given given' : Given) (old new : List Operation) → given' ≡ given → IsChangedAt (IsRowsPlace r from to) (disk given.start old) (disk given.start new)
    → (row : ℕ) → (row < from) ⊎ (to ≤ row) → IsRowKept r (present given old) (present given' new) row
rows_kept r from to given given' old new same changed row apart slot =
    ap (λ (g : Given). present g new slot (data_offset_of r slot + row)) same ∙ present-same given old new slot (data_offset_of r slot + row) (by apart (changed slot (data_offset_of r slot + row)))
  where
    by : (row < from) ⊎ (to ≤ row) → (disk given.start new slot (data_offset_of r slot + row) ≡ disk given.start old slot (data_offset_of r slot + row)) ⊎ IsRowsPlace r from to slot (data_offset_of r slot + row)
        → disk given.start new slot (data_offset_of r slot + row) ≡ disk given.start old slot (data_offset_of r slot + row)
    by apart (inl it) = it
    by (inl below) (inr there) = absurd (let place = there.place in let low = there.low in omega (arith, below, place, low))
    by (inr above) (inr there) = absurd (let place = there.place in let high = there.high in omega (arith, above, place, high))

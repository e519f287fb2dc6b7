-- What a call tells, as the ledger by which its marks are judged.
use Rattle.std.proofs.Common.{◌≡◌, ℕ, zero, suc, ◌+◌, ◌-◌, ◌/◌, ◌<◌, ◌≤◌, ◌⊎◌, inl, inr, Bool, true, false, not, cond, ◌&&◌, ◌||◌, List, [], ◌∷◌, ◌++◌, length, take, drop, refl, sym, ◌∙◌, ap, ap₂, subst, arith}
use Rattle.std.specs.Prelude.{fold, slice_index_or}
use Rattle.std.specs.List.{list_any}
use Rattle.std.proofs.lemmas.Bool.{cases_lt}
use Rattle.std.proofs.lemmas.Bool.Decides.{nat_tests}
use Rattle.std.proofs.lemmas.List.Folds.{list_any-append}
use Rattle.raid_types.specs.Sectors.{Sector, sectors_of}
use Rattle.raid_types.proofs.SectorLaws.{length-sectors_of}
use Rattle.history_append.specs.bank_Tape.{IsIn}
use Rattle.history_append.specs.stripe_list_Writing.{IsWritten}
use Rattle.history_append.specs.history_the_Entry.{Entry}
use Rattle.history_append.specs.history_the_Event.{Event}
use Rattle.history_append.specs.history_the_Event_TheVariants.{Wrote, Torn, Flushed, Stopped, Resized}
use Rattle.history_append.specs.history_Flat.{values_after, values_of, first_values, now, covers, sector_at, behind}
use Rattle.history_append.specs.history_Losses.{was_dirty, is_resync_end, is_unsynced, settles}
use Rattle.history_append.specs.history_Plain.{loses_role}
use Rattle.history_append.specs.history_World.{World}
use Rattle.history_append.specs.history_OneShape.{ShapeOpening, IsOneShapeEvent, AreOneShape, is_lost}
use Rattle.history_append.specs.crash_views_Views.{Ledger, ledger_of}
use Rattle.history_append.proofs.array_members_LackingLists.{row-sector}
use Rattle.array_call_specs.proofs.NowLaws.{sectors_of-at}

-- ---- the ledger of a call

-- what the first j entries tell of a mark by which the first k were made
abbrev pub judged_by : World → List Entry → ℕ → ℕ → Ledger
judged_by world entries k j = ledger_of world entries k j (take j entries)

-- ---- what more entries tell

neither : (a b : Bool) → (a || b) ≡ false → (a ≡ false) × (b ≡ false)
neither true b e = absurd (cc)
neither false b e = (refl, e)

pub torn-adds : (at : ℕ) (body : List Sector) (x : ℕ) (values : List Sector) (v : Sector) → IsIn values v → IsIn (values_after x values (Torn at body)) v
torn-adds at body x values v may = by (covers at body x) values may
  where
    by : (b : Bool) (values : List Sector) → IsIn values v → IsIn (cond b (behind (sector_at at body x) values) values) v
    by false values may = may
    by true [] may = absurd may
    by true (w ∷ values) (inl is) = inl is
    by true (w ∷ values) (inr may) = inr (inr may)

-- ---- whether a resync has ended

pub ends-nothing : (event : Event) → settles event ≡ false → is_resync_end event ≡ false
ends-nothing Flushed none = refl
ends-nothing Stopped none = refl
ends-nothing event none = none

-- what settles nothing ends no resync
pub none-ends : (more : List Entry) → list_any (λ e. settles e.event) more ≡ false → list_any (λ e. is_resync_end e.event) more ≡ false
none-ends [] none = refl
none-ends (e ∷ more) none =
    let parts = neither (settles e.event) (list_any (λ e. settles e.event) more) none in
    ap₂ (λ (a b : Bool). a || b) (ends-nothing e.event parts.0) (none-ends more parts.1)

-- where none of them ends it, it is pending as before
pub pending-more : (dirty : Bool) (entries more : List Entry) → list_any (λ e. is_resync_end e.event) more ≡ false
    → (dirty && not (list_any (λ e. is_resync_end e.event) (entries ++ more))) ≡ (dirty && not (list_any (λ e. is_resync_end e.event) entries))
pending-more dirty entries more none =
    ap (λ (b : Bool). dirty && not b) (list_any-append (λ e. is_resync_end e.event) entries more ∙ or_none (list_any (λ e. is_resync_end e.event) entries) (list_any (λ e. is_resync_end e.event) more) none)
  where
    or_none : (a b : Bool) → b ≡ false → (a || b) ≡ a
    or_none true b e = refl
    or_none false b e = e

pub unsynced-more : (world : World) (entries more : List Entry) → list_any (λ e. is_resync_end e.event) more ≡ false → is_unsynced world (entries ++ more) ≡ is_unsynced world entries
unsynced-more world entries more none = pending-more (was_dirty world) entries more none

-- ---- more that is told

-- where no role is told lost, none was before
pub none-lost-before : (entries more : List Entry) → ((role : ℕ) → is_lost (entries ++ more) role ≡ false) → (role : ℕ) → is_lost entries role ≡ false
none-lost-before entries more none role = (neither (is_lost entries role) (is_lost more role) (sym (list_any-append (λ e. loses_role role e.event) entries more) ∙ none role)).0

-- ---- the newest value of a sector

-- it is among its values
abbrev pub HasNewest : List Sector → Type 0
HasNewest values = IsIn values (slice_index_or values 0 [])

pub first-newest : (list : List Sector) (x : ℕ) → x < length list → HasNewest (take 1 (drop x list))
first-newest [] x lt = absurd (omega (arith, lt))
first-newest (w ∷ list) zero lt = inl refl
first-newest (w ∷ list) (suc x) lt = first-newest list x (omega (arith, lt))

newest-first : (values : List Sector) → HasNewest values → HasNewest (take 1 values)
newest-first [] has = absurd has
newest-first (w ∷ values) has = inl refl

-- a legal event leaves it one
event-newest : (opening : ShapeOpening) (before : List Entry) (e : Entry) (rest : List Entry) (event : Event) → IsOneShapeEvent opening before e rest event → (x : ℕ) (values : List Sector) → HasNewest values
    → HasNewest (values_after x values event)
event-newest opening before e rest (Wrote at body) is x values has = by (covers at body x)
  where
    by : (b : Bool) → HasNewest (cond b (sector_at at body x ∷ values) values)
    by true = inl refl
    by false = has
event-newest opening before e rest (Torn at body) is x values has = by (covers at body x) values has
  where
    by : (b : Bool) (values : List Sector) → HasNewest values → HasNewest (cond b (behind (sector_at at body x) values) values)
    by false values has = has
    by true [] has = absurd has
    by true (w ∷ values) has = inl refl
event-newest opening before e rest Flushed is x values has = newest-first values has
event-newest opening before e rest Stopped is x values has = newest-first values has
event-newest opening before e rest (Resized n) is x values has = absurd is
event-newest opening before e rest event is x values has = has

entries-newest : (opening : ShapeOpening) (ops : ℕ) (before entries : List Entry) → AreOneShape opening ops before entries → (x : ℕ) (values : List Sector) → HasNewest values
    → HasNewest (fold (λ values e. values_after x values e.event) values entries)
entries-newest opening ops before [] legal x values has = has
entries-newest opening ops before (e ∷ entries) legal x values has =
    entries-newest opening ops (before ++ e ∷ []) entries legal.1 x (values_after x values e.event) (event-newest opening before e _ e.event legal.0.event x values has)

-- so has each sector of the list, after a legal history
pub newest-allowed : (opening : ShapeOpening) (ops : ℕ) (list : List Sector) (entries : List Entry) → AreOneShape opening ops [] entries → (x : ℕ) → x < length list → IsIn (values_of list entries x) (now list entries x)
unfolding values_of
newest-allowed opening ops list entries legal x lt = entries-newest opening ops [] entries legal x (first_values list x) (first-newest list x lt)

-- ---- the values of a write

covered : (at : ℕ) (body : List Sector) (x : ℕ) → at ≤ x → x < at + length body → covers at body x ≡ true
covered at body x low high = grind (arith, nat_tests, low, high)

-- the sectors of a write, and those that it leaves, are allowed
pub written-allowed : (size first : ℕ) (from : List ℕ) (list list' : ℕ → Sector) (values : ℕ → List Sector) → IsWritten list list' first from → ((x : ℕ) → x < size → IsIn (values x) (list x))
    → ((x : ℕ) → x < size → covers first (sectors_of from) x ≡ true → IsIn (values x) (sector_at first (sectors_of from) x)) → (x : ℕ) → x < size → IsIn (values x) (list' x)
written-allowed size first from list list' values w old new x lt = elim (cases_lt x first) [
  | inl low ↦ outside (inl low)
  | inr within ↦ elim (cases_lt x (first + length from / 512)) [
    | inl high ↦ subst (λ (v : Sector). IsIn (values x) v)
        (sectors_of-at (x - first) from (omega (arith, within, high)) ∙ sym (row-sector from (x - first)) ∙ sym (w.here x within high))
        (new x lt (covered first (sectors_of from) x within (let n = length-sectors_of from in omega (arith, high, n))))
    | inr high ↦ outside (inr high)
  ]
]
  where
    outside : (x < first) ⊎ (first + length from / 512 ≤ x) → IsIn (values x) (list' x)
    outside out = subst (λ (v : Sector). IsIn (values x) v) (sym (w.other x out)) (old x lt)

-- a write's entry gives its sectors
pub wrote-in : (at : ℕ) (body : List Sector) (x : ℕ) (values : List Sector) → covers at body x ≡ true → IsIn (values_after x values (Wrote at body)) (sector_at at body x)
wrote-in at body x values is = subst (λ (b : Bool). IsIn (cond b (sector_at at body x ∷ values) values) (sector_at at body x)) (sym is) (inl refl)

-- and so does that of one that was torn
pub torn-in : (at : ℕ) (body : List Sector) (x : ℕ) (values : List Sector) → HasNewest values → covers at body x ≡ true → IsIn (values_after x values (Torn at body)) (sector_at at body x)
torn-in at body x values has is = subst (λ (b : Bool). IsIn (cond b (behind (sector_at at body x) values) values) (sector_at at body x)) (sym is) (by values has)
  where
    by : (values : List Sector) → HasNewest values → IsIn (behind (sector_at at body x) values) (sector_at at body x)
    by [] has = absurd has
    by (w ∷ values) has = inr (inl refl)

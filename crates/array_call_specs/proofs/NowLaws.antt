-- What the flat list holds after one more call.
use Rattle.std.proofs.Common.{◌≡◌, ℕ, zero, suc, ◌+◌, ◌-◌, ◌*◌, ◌/◌, ◌<◌, ◌≤◌, ◌⊎◌, inl, inr, Bool, true, false, cond, List, [], ◌∷◌, ◌++◌, length, take, drop, refl, sym, ◌∙◌, ap, arith}
use Rattle.std.proofs.lemmas.Bool.Decides.{nat_tests}
use Rattle.std.proofs.lemmas.List.{drop-drop}
use Rattle.std.proofs.lemmas.List.Sums.{fold-append}
use Rattle.std.specs.Prelude.{fold, slice_index_or}
use Rattle.raid_types.specs.Sectors.{Sector, sectors_of, first_sectors}
use Rattle.raid_types.specs.declared.answers.Who.{Who}
use Rattle.raid_types.proofs.SectorLaws.{length-sectors_of}
use Rattle.history_append.specs.history_the_Entry.{Entry}
use Rattle.history_append.specs.history_the_Event.{Event}
use Rattle.history_append.specs.history_the_Event_TheVariants.{Wrote}
use Rattle.history_append.specs.history_Flat.{values_after, values_of, first_values, now, covers, sector_at, length_of, length_after}
use Rattle.history_append.specs.history_Plain.{entries_of}
use Rattle.history_append.specs.array_members_Rows.{row_sector, IsWritten}
use Rattle.history_append.proofs.PlainLaws.{one}
use Rattle.history_append.proofs.CallLaws.{AreLossEvents, values-losses}

-- the values of a sector after some more entries
pub values-more : (list : List Sector) (entries added : List Entry) (x : ℕ) → values_of list (entries ++ added) x ≡ fold (λ values e. values_after x values e.event) (values_of list entries x) added
unfolding values_of
values-more list entries added x = fold-append (λ values e. values_after x values e.event) (first_values list x) entries added

pub now-quiet : (list : List Sector) (entries added : List Entry) (x : ℕ)
    → ((values : List Sector) → slice_index_or (fold (λ values e. values_after x values e.event) values added) 0 [] ≡ slice_index_or values 0 [])
    → now list (entries ++ added) x ≡ now list entries x
now-quiet list entries added x quiet = ap (λ (l : List Sector). slice_index_or l 0 []) (values-more list entries added x) ∙ quiet (values_of list entries x)

-- entries that give the same values
pub now-alike : (list : List Sector) (entries added others : List Entry) (x : ℕ)
    → ((values : List Sector) → fold (λ values e. values_after x values e.event) values added ≡ fold (λ values e. values_after x values e.event) values others)
    → now list (entries ++ added) x ≡ now list (entries ++ others) x
now-alike list entries added others x alike =
    ap (λ (l : List Sector). slice_index_or l 0 []) (values-more list entries added x ∙ alike (values_of list entries x) ∙ sym (values-more list entries others x))

-- a write gives its sectors to the list, and leaves the others
pub now-wrote : (list : List Sector) (entries : List Entry) (e : Entry) (at : ℕ) (body : List Sector) (x : ℕ) → e.event ≡ Wrote at body
    → now list (entries ++ e ∷ []) x ≡ cond (covers at body x) (sector_at at body x) (now list entries x)
now-wrote list entries e at body x is =
    ap (λ (l : List Sector). slice_index_or l 0 []) (values-more list entries (e ∷ []) x ∙ ap (λ event. values_after x (values_of list entries x) event) is)
    ∙ by (covers at body x) (values_of list entries x)
  where
    by : (b : Bool) (values : List Sector) → slice_index_or (cond b (sector_at at body x ∷ values) values) 0 [] ≡ cond b (sector_at at body x) (slice_index_or values 0 [])
    by true values = refl
    by false values = refl

pub now-wrote_here : (list : List Sector) (entries : List Entry) (e : Entry) (at : ℕ) (body : List Sector) (x : ℕ) → e.event ≡ Wrote at body → at ≤ x → x < at + length body
    → now list (entries ++ e ∷ []) x ≡ sector_at at body x
now-wrote_here list entries e at body x is low high =
    now-wrote list entries e at body x is ∙ ap (λ (b : Bool). cond b (sector_at at body x) (now list entries x)) (covered at body x low high)
  where
    covered : (at : ℕ) (body : List Sector) (x : ℕ) → at ≤ x → x < at + length body → covers at body x ≡ true
    covered at body x low high = grind (arith, nat_tests, low, high)

pub now-wrote_other : (list : List Sector) (entries : List Entry) (e : Entry) (at : ℕ) (body : List Sector) (x : ℕ) → e.event ≡ Wrote at body → (x < at) ⊎ (at + length body ≤ x)
    → now list (entries ++ e ∷ []) x ≡ now list entries x
now-wrote_other list entries e at body x is apart =
    now-wrote list entries e at body x is ∙ ap (λ (b : Bool). cond b (sector_at at body x) (now list entries x)) (elim apart [ inl below ↦ before at body x below | inr above ↦ behind at body x above ])
  where
    before : (at : ℕ) (body : List Sector) (x : ℕ) → x < at → covers at body x ≡ false
    before at body x below = grind (arith, nat_tests, below)

    behind : (at : ℕ) (body : List Sector) (x : ℕ) → at + length body ≤ x → covers at body x ≡ false
    behind at body x above = grind (arith, nat_tests, above)

-- ---- bytes as sectors

pub first_sectors-at : (n i : ℕ) (bytes : List ℕ) → i < n → slice_index_or (first_sectors n bytes) i [] ≡ row_sector bytes i
first_sectors-at zero i bytes lt = absurd (omega (arith, lt))
first_sectors-at (suc n) zero bytes lt = refl
first_sectors-at (suc n) (suc i) bytes lt =
    let far : 512 + 512 * i ≡ 512 * suc i = omega arith in
    first_sectors-at n i (drop 512 bytes) (omega (arith, lt)) ∙ ap (λ (l : List ℕ). take 512 l) (drop-drop (512 * i) 512 bytes ∙ ap (λ (m : ℕ). drop m bytes) far)

pub sectors_of-at : (i : ℕ) (bytes : List ℕ) → i < length bytes / 512 → slice_index_or (sectors_of bytes) i [] ≡ row_sector bytes i
sectors_of-at i bytes lt = first_sectors-at (length bytes / 512) i bytes lt

-- the list after a write's entry, which may stand behind losses
pub wrote-is : (list : List Sector) (entries : List Entry) (who : Who) (end : ℕ) (losses : List Event) (first : ℕ) (from : List ℕ) → AreLossEvents losses
    → IsWritten (now list entries) (now list (entries ++ entries_of who end (losses ++ Wrote first (sectors_of from) ∷ []))) first from
wrote-is list entries who end losses first from are = record {
  here = λ x low high. alone x
      ∙ now-wrote_here list entries (one who end (Wrote first (sectors_of from))) first (sectors_of from) x refl low (omega (arith, high, length-sectors_of from))
      ∙ sectors_of-at (x - first) from (omega (arith, low, high));
  other = λ x apart. alone x
      ∙ now-wrote_other list entries (one who end (Wrote first (sectors_of from))) first (sectors_of from) x refl
      (elim apart [ inl below ↦ inl below | inr above ↦ inr (omega (arith, above, length-sectors_of from)) ]);
}
  where
    alone : (x : ℕ) → now list (entries ++ entries_of who end (losses ++ Wrote first (sectors_of from) ∷ [])) x ≡ now list (entries ++ one who end (Wrote first (sectors_of from)) ∷ []) x
    alone x = now-alike list entries (entries_of who end (losses ++ Wrote first (sectors_of from) ∷ [])) (one who end (Wrote first (sectors_of from)) ∷ []) x
        (λ values. values-losses who end losses (Wrote first (sectors_of from) ∷ []) are x values)

-- ---- the length

pub length-more : (n : ℕ) (entries added : List Entry) → length_of n entries ≡ n → fold (λ m e. length_after m e.event) n added ≡ n → length_of n (entries ++ added) ≡ n
length-more n entries added sized quiet =
    fold-append (λ m e. length_after m e.event) n entries added ∙ ap (λ (m : ℕ). fold (λ m e. length_after m e.event) m added) sized ∙ quiet

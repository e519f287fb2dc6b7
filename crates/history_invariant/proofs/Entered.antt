-- What a call tells by the sort of its events: most only add to what was told.
use Rattle.std.proofs.Common.{◌≡◌, inl, inr, ℕ, ◌<◌, ◌||◌, Bool, true, false, cond, Option, List, [], ◌∷◌, ◌++◌, length, fold, refl, sym, ◌∙◌, ap, ap₂, subst}
use Rattle.std.specs.Prelude.{IsTrue}
use Rattle.std.specs.List.{list_any, list_all}
use Rattle.std.proofs.lemmas.List.Folds.{list_any-append}
use Rattle.std.proofs.lemmas.List.Sums.{fold-append}
use Rattle.array_call_specs.specs.raid_types_Sectors.{Sector}
use Rattle.array_call_specs.specs.raid_types_the_Who.{Who}
use Rattle.array_call_specs.specs.bank_Tape.{IsIn}
use Rattle.array_call_specs.specs.sb_specs_Reading.{Reading}
use Rattle.array_call_specs.specs.history_the_Entry.{Entry}
use Rattle.array_call_specs.specs.history_the_Event.{Event}
use Rattle.array_call_specs.specs.history_the_Event_TheVariants.{Wrote, Torn, Flushed, Lost, SpareLost, Resized, Step, Stopped}
use Rattle.array_call_specs.specs.history_the_LostCause_TheVariants.{Fault}
use Rattle.array_call_specs.specs.history_the_StepKind_TheVariants.{ResyncEnded}
use Rattle.array_call_specs.specs.history_Flat.{length_after, length_of, covers, sector_at, behind, values_after, first_values, values_of, now}
use Rattle.array_call_specs.specs.history_Losses.{takes, loses, settles, is_unsynced, is_gone_after}
use Rattle.array_call_specs.specs.history_OneShape.{is_lost, is_unsettled}
use Rattle.array_call_specs.specs.history_Plain.{loses_role, entries_of}
use Rattle.array_call_specs.specs.history_World.{World, reading_at, opening_list}
use Rattle.array_call_specs.proofs.history_laws_OneShapeGrowing.{AreFaults}
use Rattle.array_call_specs.specs.crash_safety_laws_Steady.{IsMoreTold, settled_ledger}
use Rattle.array_call_specs.proofs.history_LegalLaws.{both}
use Rattle.history_invariant.specs.Recorded.{gives_some}
use Rattle.history_invariant.specs.Told.{told_now, told_by}
use Rattle.history_invariant.proofs.Tests.{or-left, or-right}
use Rattle.history_invariant.proofs.Ledgers.{any-gone, told-more, told-now}
use Rattle.history_invariant.proofs.Longer.{regains-none}

-- ---- roles that are gone

-- what was gone counts in a call
pub gone-was : (world : World) (entries more : List Entry) (role : ℕ) → is_gone_after world entries role ≡ true → (is_gone_after world entries role || list_any (loses world role) more) ≡ true
gone-was world entries more role is = or-left (is_gone_after world entries role) (list_any (loses world role) more) is

loss-takes : (found : Option Reading) (role : ℕ) (event : Event) → loses_role role event ≡ true → takes found role event ≡ true
loss-takes found role (Lost lost cause) is = is
loss-takes found role event is = absurd (cc)

-- a role that is told lost is taken
pub lost-taken : (world : World) (role : ℕ) (xs : List Entry) → is_lost xs role ≡ true → list_any (loses world role) xs ≡ true
lost-taken world role [] is = is
lost-taken world role (x ∷ xs) is = by (loses_role role x.event) refl (lost-taken world role xs) is
  where
    by : (b : Bool) → loses_role role x.event ≡ b → (is_lost xs role ≡ true → list_any (loses world role) xs ≡ true) → (b || is_lost xs role) ≡ true → (loses world role x || list_any (loses world role) xs) ≡ true
    by true here rest is = or-left (loses world role x) (list_any (loses world role) xs) (loss-takes (reading_at world x.end) role x.event here)
    by false here rest is = or-right (loses world role x) (list_any (loses world role) xs) (rest is)

-- so it counts in a call that tells so
pub gone-lost : (world : World) (entries more : List Entry) (role : ℕ) → is_lost more role ≡ true → (is_gone_after world entries role || list_any (loses world role) more) ≡ true
gone-lost world entries more role is = or-right (is_gone_after world entries role) (list_any (loses world role) more) (lost-taken world role more is)

-- ---- events that only add

-- the event settles nothing and keeps the length
abbrev pub adds_only : Event → Bool
adds_only Flushed = false
adds_only Stopped = false
adds_only (Resized n) = false
adds_only (Step ResyncEnded left) = false
adds_only event = true

abbrev pub AreAdding : List Entry → Type 0
AreAdding entries = IsTrue (list_all (λ e. adds_only e.event) entries)

length-stays : (n : ℕ) (event : Event) → adds_only event ≡ true → length_after n event ≡ n
length-stays n (Resized m) adds = absurd (cc)
length-stays n event adds = refl

settles-nothing : (event : Event) → adds_only event ≡ true → settles event ≡ false
settles-nothing Flushed adds = absurd (cc)
settles-nothing Stopped adds = absurd (cc)
settles-nothing (Step ResyncEnded left) adds = absurd (cc)
settles-nothing event adds = refl

wrote-adds : (b : Bool) (new : Sector) (values : List Sector) (v : Sector) → IsIn values v → IsIn (cond b (new ∷ values) values) v
wrote-adds true new values v may = inr may
wrote-adds false new values v may = may

torn-adds : (b : Bool) (new : Sector) (values : List Sector) (v : Sector) → IsIn values v → IsIn (cond b (behind new values) values) v
torn-adds false new values v may = may
torn-adds true new [] v may = absurd may
torn-adds true new (w ∷ values) v (inl is) = inl is
torn-adds true new (w ∷ values) v (inr may) = inr (inr may)

values-stay : (x : ℕ) (event : Event) (values : List Sector) (v : Sector) → adds_only event ≡ true → IsIn values v → IsIn (values_after x values event) v
values-stay x (Wrote at body) values v adds may = wrote-adds (covers at body x) (sector_at at body x) values v may
values-stay x (Torn at body) values v adds may = torn-adds (covers at body x) (sector_at at body x) values v may
values-stay x Flushed values v adds may = absurd (cc)
values-stay x Stopped values v adds may = absurd (cc)
values-stay x (Resized n) values v adds may = absurd (cc)
values-stay x event values v adds may = may

pub lengths-stay : (n : ℕ) (xs : List Entry) → AreAdding xs → length_of n xs ≡ n
lengths-stay n [] adds = refl
lengths-stay n (x ∷ xs) adds =
    let parts = both (adds_only x.event) (list_all (λ e. adds_only e.event) xs) adds in
    ap (λ (m : ℕ). length_of m xs) (length-stays n x.event parts.0) ∙ lengths-stay n xs parts.1

pub settle-none : (xs : List Entry) → AreAdding xs → list_any (λ e. settles e.event) xs ≡ false
settle-none [] adds = refl
settle-none (x ∷ xs) adds =
    let parts = both (adds_only x.event) (list_all (λ e. adds_only e.event) xs) adds in
    ap₂ (λ (a b : Bool). a || b) (settles-nothing x.event parts.0) (settle-none xs parts.1)

pub all-stay : (x : ℕ) (xs : List Entry) (values : List Sector) (v : Sector) → AreAdding xs → IsIn values v → IsIn (fold (λ values e. values_after x values e.event) values xs) v
all-stay x [] values v adds may = may
all-stay x (e ∷ xs) values v adds may =
    let parts = both (adds_only e.event) (list_all (λ e. adds_only e.event) xs) adds in
    all-stay x xs (values_after x values e.event) v parts.1 (values-stay x e.event values v parts.0 may)

-- the values of a sector after some more entries
pub values-more : (list : List Sector) (entries added : List Entry) (x : ℕ) → values_of list (entries ++ added) x ≡ fold (λ values e. values_after x values e.event) (values_of list entries x) added
unfolding values_of
values-more list entries added x = fold-append (λ values e. values_after x values e.event) (first_values list x) entries added

pub length-more : (n : ℕ) (entries added : List Entry) → length_of n (entries ++ added) ≡ length_of (length_of n entries) added
length-more n entries added = fold-append (λ m e. length_after m e.event) n entries added

-- such entries keep the length
pub length-adding : (n : ℕ) (entries added : List Entry) → AreAdding added → length_of n (entries ++ added) ≡ length_of n entries
length-adding n entries added adds = length-more n entries added ∙ lengths-stay (length_of n entries) added adds

-- and each value that a sector may have
pub values-adding : (list : List Sector) (entries added : List Entry) → AreAdding added → (x : ℕ) (v : Sector) → IsIn (values_of list entries x) v → IsIn (values_of list (entries ++ added) x) v
values-adding list entries added adds x v may = subst (λ (l : List Sector). IsIn l v) (sym (values-more list entries added x)) (all-stay x added (values_of list entries x) v adds may)

-- A call that enters them tells more than the history before it.
pub told-adding : (world : World) (old new : ℕ → ℕ → Bool) (was is_now : Bool) (entries more : List Entry) → AreAdding more → ((slot number : ℕ) → old slot number ≡ true → new slot number ≡ true) → (was ≡ true → is_now ≡ true)
    → IsMoreTold (told_now world old was entries) (told_by world new is_now entries more)
told-adding world old new was is_now entries more adds carries turns =
    told-more world old new was is_now entries more (length-adding (length (opening_list world)) entries more adds) (values-adding (opening_list world) entries more adds) carries turns

-- And its end no less than the call, where no role is given a holder.
pub told-added : (world : World) (carried : ℕ → ℕ → Bool) (reshaping : Bool) (entries more : List Entry) → AreAdding more → list_any (λ e. gives_some e.event) more ≡ false
    → IsMoreTold (told_by world carried reshaping entries more) (told_now world carried reshaping (entries ++ more))
told-added world carried reshaping entries more adds none = told-now world carried reshaping entries more (λ role. regains-none world role more none) (settle-none more adds)

-- ---- losses

-- they add before other events
pub adding-losses : (who : Who) (end : ℕ) (xs ys : List Event) → AreFaults xs → AreAdding (entries_of who end ys) → AreAdding (entries_of who end (xs ++ ys))
adding-losses who end [] ys are rest = rest
adding-losses who end (Lost role Fault ∷ xs) ys are rest = adding-losses who end xs ys are rest
adding-losses who end (SpareLost slot ∷ xs) ys are rest = adding-losses who end xs ys are rest
adding-losses who end (event ∷ xs) ys are rest = absurd are

-- and give no role a holder
pub none-losses : (who : Who) (end : ℕ) (xs ys : List Event) → AreFaults xs → list_any (λ e. gives_some e.event) (entries_of who end ys) ≡ false
    → list_any (λ e. gives_some e.event) (entries_of who end (xs ++ ys)) ≡ false
none-losses who end [] ys are rest = rest
none-losses who end (Lost role Fault ∷ xs) ys are rest = none-losses who end xs ys are rest
none-losses who end (SpareLost slot ∷ xs) ys are rest = none-losses who end xs ys are rest
none-losses who end (event ∷ xs) ys are rest = absurd are

-- ---- what is settled

-- A flush or a stop behind the first entries of a call leaves each sector its newest value, and so does the end of a resync.
pub settled-now : (world : World) (carried : ℕ → ℕ → Bool) (reshaping unsynced : Bool) (entries more rest : List Entry) → is_unsynced world (entries ++ (more ++ rest)) ≡ unsynced
    → length_of (length (opening_list world)) (entries ++ (more ++ rest)) ≡ length_of (length (opening_list world)) (entries ++ more)
    → ((x : ℕ) → x < length_of (length (opening_list world)) (entries ++ more) → IsIn (values_of (opening_list world) (entries ++ (more ++ rest)) x) (now (opening_list world) entries x))
    → list_any (λ e. gives_some e.event) (more ++ rest) ≡ false
    → IsMoreTold (settled_ledger unsynced (now (opening_list world) entries) (told_by world carried reshaping entries more)) (told_now world carried reshaping (entries ++ (more ++ rest)))
settled-now world carried reshaping unsynced entries more rest dirty sized newest none = record {
  size = sym sized;
  values = λ x lt v only. elim only [
    | inl same ↦ subst (λ (w : Sector). IsIn (values_of (opening_list world) (entries ++ (more ++ rest)) x) w) (sym same) (newest x lt)
    | inr nothing ↦ absurd nothing
  ];
  gone = λ role is. any-gone world role entries (more ++ rest) (regains-none world role (more ++ rest) none) (with_rest role is);
  unclean = λ is. or-left (is_unsynced world (entries ++ (more ++ rest))) (is_unsettled (entries ++ (more ++ rest))) (dirty ∙ is);
  reshaping = λ is. is;
  carried = λ slot number is. is;
}
  where
    three : (a b c : Bool) → (a || b) ≡ true → (a || (b || c)) ≡ true
    three true b c is = refl
    three false true c is = refl
    three false false c is = absurd (cc)

    with_rest : (role : ℕ) → (is_gone_after world entries role || list_any (loses world role) more) ≡ true → (is_gone_after world entries role || list_any (loses world role) (more ++ rest)) ≡ true
    with_rest role is =
        ap (λ (b : Bool). is_gone_after world entries role || b) (list_any-append (loses world role) more rest)
        ∙ three (is_gone_after world entries role) (list_any (loses world role) more) (list_any (loses world role) rest) is

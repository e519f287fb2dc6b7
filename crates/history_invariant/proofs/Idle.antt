-- A call that does nothing on the bank leaves the history safe, also where no live slot is left that had kept a change of length.
use Rattle.std.proofs.Common.{◌≡◌, inl, inr, ℕ, zero, suc, ◌<◌, ◌≤◌, ◌&&◌, ◌||◌, ◌==◌, ◌⊎◌, Bool, true, false, cond, Option, Some, None, List, [], ◌∷◌, ◌++◌, length, take, drop, remove, refl, sym, ◌∙◌, ap, ap₂, subst, arith, append_assoc, append-nil}
use Rattle.std.specs.List.{list_any, list_all}
use Rattle.std.specs.Option.{option_map_or}
use Rattle.std.proofs.Math.Seq.{take-length}
use Rattle.std.proofs.lemmas.List.{take-append-le}
use Rattle.std.proofs.lemmas.List.Edits.{remove-append_left}
use Rattle.array_call_specs.specs.raid_types_the_Who.{Who}
use Rattle.array_call_specs.specs.bank_the_Operation.{Operation}
use Rattle.array_call_specs.specs.bank_Given.{Given, sizes}
use Rattle.array_call_specs.specs.bank_Tape.{IsIn, disk}
use Rattle.array_call_specs.specs.sb_specs_the_Members.{Members}
use Rattle.array_call_specs.specs.sb_specs_Reading.{Scope}
use Rattle.array_call_specs.specs.history_the_Entry.{Entry}
use Rattle.array_call_specs.specs.history_the_Event.{Event}
use Rattle.array_call_specs.specs.history_the_Event_TheVariants.{Resized}
use Rattle.array_call_specs.specs.history_CrashSafe.{is_resized, last_resized, first_end, up_to, first_with_losses, losses_behind, MayBeLeftOut}
use Rattle.array_call_specs.specs.history_Flat.{length_of, values_of}
use Rattle.array_call_specs.specs.history_Growing.{grown, EndBy, IsSafeThroughout}
use Rattle.array_call_specs.specs.history_Legal.{is_loss, is_all_gone}
use Rattle.array_call_specs.specs.history_Plain.{entries_of}
use Rattle.array_call_specs.specs.history_Sound.{OpensFit}
use Rattle.array_call_specs.specs.history_World.{World, opening_list}
use Rattle.array_call_specs.specs.crash_safety_laws_Changing.{IsSpentByEither}
use Rattle.array_call_specs.specs.crash_safety_laws_Steady.{IsMoreTold, IsSafeOver}
use Rattle.array_call_specs.proofs.history_LegalLaws.{both}
use Rattle.history_invariant.specs.Recorded.{gives_some}
use Rattle.history_invariant.specs.Safe.{world_in, IsFilledRight, told_without, IsNowRight, IsSafeHistory}
use Rattle.history_invariant.specs.Told.{told_now, told_by}
use Rattle.history_invariant.proofs.Entered.{adds_only, AreAdding, length-adding, values-adding, told-adding, told-added}
use Rattle.history_invariant.proofs.Ledgers.{more-then}
use Rattle.history_invariant.proofs.Longer.{all-gone, take-ends}
use Rattle.history_invariant.proofs.Marks.{safe-marks, ends-both}
use Rattle.history_invariant.proofs.Seen.{seen-told, now-more, seen-now}

-- ---- the last change of length

adds-no_length : (event : Event) → adds_only event ≡ true → is_resized event ≡ false
adds-no_length (Resized n) adds = absurd (cc)
adds-no_length event adds = refl

-- entries that only add change none
resized-none : (ys : List Entry) → AreAdding ys → last_resized ys ≡ None
resized-none [] adds = refl
resized-none (y ∷ ys) adds =
    let parts = both (adds_only y.event) (list_all (λ e. adds_only e.event) ys) adds in
    ap₂ (λ (o : Option ℕ) (b : Bool). option_map_or (λ place. Some (suc place)) o (cond b (Some 0) None)) (resized-none ys parts.1) (adds-no_length y.event parts.0)

resized-more : (xs ys : List Entry) → AreAdding ys → last_resized (xs ++ ys) ≡ last_resized xs
resized-more [] ys adds = resized-none ys adds
resized-more (x ∷ xs) ys adds = ap (λ (o : Option ℕ). option_map_or (λ place. Some (suc place)) o (cond (is_resized x.event) (Some 0) None)) (resized-more xs ys adds)

place-found : (n place : ℕ) (found : Option ℕ) (first : Bool) → ((p : ℕ) → found ≡ Some p → p < n) → option_map_or (λ p. Some (suc p)) found (cond first (Some 0) None) ≡ Some place → place < suc n
place-found n place None true below e = let is : 0 ≡ place = cc in omega (arith, is)
place-found n place None false below e = absurd (cc)
place-found n place (Some p) first below e = let is : suc p ≡ place = cc in let lt : p < n = below p refl in omega (arith, is, lt)

resized-within : (xs : List Entry) (place : ℕ) → last_resized xs ≡ Some place → place < length xs
resized-within [] place is = absurd (cc)
resized-within (e ∷ xs) place is = place-found (length xs) place (last_resized xs) (is_resized e.event) (resized-within xs) is

-- ---- the entries up to it, with the losses behind

losses-longer : (e : Entry) (xs ys : List Entry) → (losses_behind e (xs ++ ys) ≡ losses_behind e xs) ⊎ (losses_behind e (xs ++ ys) ≡ losses_behind e xs ++ losses_behind e ys)
losses-longer e [] ys = inr refl
losses-longer e (x ∷ xs) ys = by (is_loss x.event && (x.caller == e.caller) && (x.number == e.number)) (losses-longer e xs ys)
  where
    by : (b : Bool) → (losses_behind e (xs ++ ys) ≡ losses_behind e xs) ⊎ (losses_behind e (xs ++ ys) ≡ losses_behind e xs ++ losses_behind e ys)
        → (cond b (x ∷ losses_behind e (xs ++ ys)) [] ≡ cond b (x ∷ losses_behind e xs) []) ⊎ (cond b (x ∷ losses_behind e (xs ++ ys)) [] ≡ cond b (x ∷ losses_behind e xs) [] ++ losses_behind e ys)
    by true (inl same) = inl (ap (λ (l : List Entry). x ∷ l) same)
    by true (inr more) = inr (ap (λ (l : List Entry). x ∷ l) more)
    by false grows = inl refl

losses-none : (e : Entry) (ys : List Entry) → list_any (λ e. gives_some e.event) ys ≡ false → list_any (λ e. gives_some e.event) (losses_behind e ys) ≡ false
losses-none e [] none = refl
losses-none e (y ∷ ys) none = by (is_loss y.event && (y.caller == e.caller) && (y.number == e.number)) (parts (gives_some y.event) none) (losses-none e ys (parts (gives_some y.event) none).1)
  where
    parts : (a : Bool) → (a || list_any (λ e. gives_some e.event) ys) ≡ false → (a ≡ false) × (list_any (λ e. gives_some e.event) ys ≡ false)
    parts true e = absurd (cc)
    parts false e = (refl, e)

    by : (b : Bool) → (gives_some y.event ≡ false) × (list_any (λ e. gives_some e.event) ys ≡ false) → list_any (λ e. gives_some e.event) (losses_behind e ys) ≡ false
        → list_any (λ e. gives_some e.event) (cond b (y ∷ losses_behind e ys) []) ≡ false
    by true first rest = ap₂ (λ (a b : Bool). a || b) first.0 rest
    by false first rest = refl

losses-ends : (mark : ℕ) (e : Entry) (xs : List Entry) → EndBy mark xs → EndBy mark (losses_behind e xs)
losses-ends mark e [] ends = tt
losses-ends mark e (x ∷ xs) ends = by (is_loss x.event && (x.caller == e.caller) && (x.number == e.number)) (losses-ends mark e xs ends.1)
  where
    by : (b : Bool) → EndBy mark (losses_behind e xs) → EndBy mark (cond b (x ∷ losses_behind e xs) [])
    by true rest = (ends.0, rest)
    by false rest = tt

first-ends : (mark : ℕ) (xs : List Entry) → EndBy mark xs → EndBy mark (first_with_losses xs)
first-ends mark [] ends = tt
first-ends mark (x ∷ xs) ends = (ends.0, losses-ends mark x xs ends.1)

drop-ends : (mark n : ℕ) (xs : List Entry) → EndBy mark xs → EndBy mark (drop n xs)
drop-ends mark zero xs ends = ends
drop-ends mark (suc n) [] ends = tt
drop-ends mark (suc n) (x ∷ xs) ends = drop-ends mark n xs ends.1

drop-more : (n : ℕ) (xs ys : List Entry) → n < length xs → drop n (xs ++ ys) ≡ drop n xs ++ ys
drop-more n [] ys lt = absurd (omega (arith, lt))
drop-more zero (x ∷ xs) ys lt = refl
drop-more (suc n) (x ∷ xs) ys lt = drop-more n xs ys (omega (arith, lt))

-- so many entries are left from a place on, one at least
some-left : (n : ℕ) (xs : List Entry) → n < length xs → (x : Entry) × (rest : List Entry) × (drop n xs ≡ x ∷ rest)
some-left n [] lt = absurd (omega (arith, lt))
some-left zero (x ∷ xs) lt = (x, xs, refl)
some-left (suc n) (x ∷ xs) lt = some-left n xs (omega (arith, lt))

-- with more entries behind that give no role a holder, only such come to stand there
pub record IsLongerBy (few many : List Entry) : Type 0 where
  pub extra : List Entry
  pub is : many ≡ few ++ extra
  pub none : list_any (λ e. gives_some e.event) extra ≡ false

first-longer : (xs ys : List Entry) → (x : Entry) × (rest : List Entry) × (xs ≡ x ∷ rest) → list_any (λ e. gives_some e.event) ys ≡ false → IsLongerBy (first_with_losses xs) (first_with_losses (xs ++ ys))
first-longer xs ys found none =
    subst (λ (l : List Entry). IsLongerBy (first_with_losses l) (first_with_losses (l ++ ys))) (sym found.2) (elim (losses-longer found.0 found.1 ys) [
      | inl same ↦ record { extra = []; is = ap (λ (l : List Entry). found.0 ∷ l) (same ∙ sym (append-nil (losses_behind found.0 found.1))); none = refl }
      | inr more ↦ record { extra = losses_behind found.0 ys; is = ap (λ (l : List Entry). found.0 ∷ l) more; none = losses-none found.0 ys none }
    ])

up_to-longer : (entries added : List Entry) (place : ℕ) → place < length entries → list_any (λ e. gives_some e.event) added ≡ false → IsLongerBy (up_to entries place) (up_to (entries ++ added) place)
up_to-longer entries added place lt none =
    let longer = first-longer (drop place entries) added (some-left place entries lt) none in
    record {
      extra = longer.extra;
      is =
          ap₂ (λ (a b : List Entry). a ++ b) (take-append-le place entries added (omega (arith, lt))) (ap first_with_losses (drop-more place entries added lt) ∙ longer.is)
          ∙ sym (append_assoc (take place entries) (first_with_losses (drop place entries)) longer.extra);
      none = longer.none;
    }

first-same : (xs ys : List Entry) → (x : Entry) × (rest : List Entry) × (xs ≡ x ∷ rest) → first_end (xs ++ ys) ≡ first_end xs
first-same xs ys found = subst (λ (l : List Entry). first_end (l ++ ys) ≡ first_end l) (sym found.2) refl

first-within : (mark : ℕ) (xs : List Entry) → EndBy mark xs → first_end xs ≤ mark
first-within mark [] ends = omega arith
first-within mark (x ∷ xs) ends = ends.0

-- it may be left out still
left_out-more : (world : World) (ops : List Operation) (entries added : List Entry) (place : ℕ) → world.first ≤ length world.tape → EndBy (length world.tape) entries → AreAdding added
    → list_any (λ e. gives_some e.event) added ≡ false → MayBeLeftOut world entries (length entries) place → MayBeLeftOut (grown world ops) (entries ++ added) (length (entries ++ added)) place
left_out-more world ops entries added place within ends adds none out =
    let last : last_resized entries ≡ Some place = ap last_resized (sym (take-length entries)) ∙ out.last in
    let lt = resized-within entries place last in
    let longer = up_to-longer entries added place lt none in
    let end_is : first_end (drop place (entries ++ added)) ≡ first_end (drop place entries) = ap first_end (drop-more place entries added lt) ∙ first-same (drop place entries) added (some-left place entries lt) in
    record {
      last = ap last_resized (take-length (entries ++ added)) ∙ resized-more entries added adds ∙ last;
      gone =
          ap₂ (λ (n : ℕ) (l : List Entry). is_all_gone (grown world ops) n l) end_is longer.is
          ∙ all-gone world ops within (first_end (drop place entries)) (up_to entries place) longer.extra (first-within (length world.tape) (drop place entries) (drop-ends (length world.tape) place entries ends))
          (ends-both (length world.tape) (take place entries) (first_with_losses (drop place entries)) (take-ends (length world.tape) place entries ends) (first-ends (length world.tape) (drop place entries) (drop-ends (length world.tape) place entries ends)))
          longer.none out.gone;
    }

-- ---- what is told

module _ (world : World) (carried : ℕ → ℕ → Bool) (reshaping : Bool) (entries added : List Entry) (adds : AreAdding added) (none : list_any (λ e. gives_some e.event) added ≡ false) where
  -- entries that only add tell more
  pub now-adding : IsMoreTold (told_now world carried reshaping entries) (told_now world carried reshaping (entries ++ added))
  now-adding =
      more-then (told_now world carried reshaping entries) (told_by world carried reshaping entries added) (told_now world carried reshaping (entries ++ added))
      (told-adding world carried carried reshaping reshaping entries added adds (λ slot number is. is) (λ is. is)) (told-added world carried reshaping entries added adds none)

-- so they do without a change of length before them
pub without-adding : (world : World) (entries added : List Entry) (place : ℕ) → AreAdding added → list_any (λ e. gives_some e.event) added ≡ false → place < length entries
    → IsMoreTold (told_without world entries place) (told_without world (entries ++ added) place)
without-adding world entries added place adds none lt =
    let same : remove (entries ++ added) place ≡ remove entries place ++ added = remove-append_left entries added place lt in
    let more = now-adding world (λ slot number. true) true entries added adds none in
    record {
      size = sym (ap (λ (l : List Entry). length_of (length (opening_list world)) l) same ∙ length-adding (length (opening_list world)) (remove entries place) added adds);
      values = λ x lt v may. subst (λ (l : List Entry). IsIn (values_of (opening_list world) l x) v) (sym same) (values-adding (opening_list world) (remove entries place) added adds x v may);
      gone = more.gone;
      unclean = more.unclean;
      reshaping = λ is. is;
      carried = λ slot number is. is;
    }

-- ---- the call

-- It enters events that only add and give no role a holder; the tape stays as it is.
module _ (claims : Type 0) (given : Given) (tape : List Operation) (scope : Scope) (first : ℕ) (entries : List Entry) (members : Members) (carried : ℕ → ℕ → Bool) (reshaping : Bool) (who : Who) (events : List Event)
    (sizes_are : scope.sizes ≡ sizes given) (within : first ≤ length tape) (ends : EndBy (length tape) entries)
    (fills : IsFilledRight (world_in given tape scope first) (entries ++ entries_of who (length tape) events)) (was : IsSafeHistory claims (world_in given tape scope first) given members carried reshaping entries)
    (adds : AreAdding (entries_of who (length tape) events)) (none : list_any (λ e. gives_some e.event) (entries_of who (length tape) events) ≡ false) where
  no-more : tape ≡ tape ++ []
  no-more = sym (append-nil tape)

  -- as a call that appends no operations
  abbrev added_in : List Operation → List Entry
  added_in l = entries_of who (length l) events

  now-later : IsNowRight (grown (world_in given tape scope first) []) given members carried reshaping (entries ++ added_in (tape ++ []))
  now-later = elim was.now [
    | inl safe ↦ inl (subst (λ (l : List Operation). IsSafeOver (world_in given l scope first) given (told_now (world_in given l scope first) carried reshaping (entries ++ added_in l)) members l) no-more
        (now-more (OpensFit (world_in given tape scope first)) scope given (told_now (world_in given tape scope first) carried reshaping entries) (told_now (world_in given tape scope first) carried reshaping (entries ++ added_in tape))
        members (disk given.start tape) (now-adding (world_in given tape scope first) carried reshaping entries (added_in tape) adds none) safe))
    | inr unkept ↦ inr (record {
      place = unkept.place;
      left_out = left_out-more (world_in given tape scope first) [] entries (added_in (tape ++ [])) unkept.place within ends
          (subst (λ (l : List Operation). AreAdding (added_in l)) no-more adds) (subst (λ (l : List Operation). list_any (λ e. gives_some e.event) (added_in l) ≡ false) no-more none) unkept.left_out;
      spent = subst (λ (l : List Operation). IsSpentByEither (OpensFit (world_in given l scope first)) scope given
          (told_without (world_in given l scope first) (entries ++ added_in l) unkept.place)
          (told_now (world_in given l scope first) carried reshaping (entries ++ added_in l)) members (disk given.start l)) no-more (record {
            right = λ c drawn. elim (unkept.spent.right c drawn) [
              | inl seen ↦ inl (seen-told (OpensFit (world_in given tape scope first)) scope given
                  (told_without (world_in given tape scope first) entries unkept.place)
                  (told_without (world_in given tape scope first) (entries ++ added_in tape) unkept.place)
                  (without-adding (world_in given tape scope first) entries (added_in tape) unkept.place adds none
                  (resized-within entries unkept.place (ap last_resized (sym (take-length entries)) ∙ unkept.left_out.last))) (disk given.start tape) c seen)
              | inr seen ↦ inr (seen-told (OpensFit (world_in given tape scope first)) scope given (told_now (world_in given tape scope first) carried reshaping entries)
                  (told_now (world_in given tape scope first) carried reshaping (entries ++ added_in tape)) (now-adding (world_in given tape scope first) carried reshaping entries (added_in tape) adds none) (disk given.start tape) c seen)
            ];
            none = unkept.spent.none;
          });
    })
  ]

  fills-later : IsFilledRight (grown (world_in given tape scope first) []) (entries ++ added_in (tape ++ []))
  fills-later = subst (λ (l : List Operation). IsFilledRight (world_in given l scope first) (entries ++ added_in l)) no-more fills

  past-later : IsSafeThroughout (grown (world_in given tape scope first) []) (entries ++ added_in (tape ++ []))
  past-later = safe-marks given tape scope first entries who events [] sizes_are within ends fills-later was.past
      (λ mark low high. absurd (let same : length (tape ++ []) ≡ length tape = ap (λ (l : List Operation). length l) (append-nil tape) in omega (arith, low, high, same)))
      (seen-now given tape scope first entries who events [] sizes_are within ends fills-later members carried reshaping now-later)

  pub idle-call : IsSafeHistory claims (world_in given tape scope first) given members carried reshaping (entries ++ entries_of who (length tape) events)
  idle-call = record {
    past = subst (λ (l : List Operation). IsSafeThroughout (world_in given l scope first) (entries ++ added_in l)) (sym no-more) past-later;
    sound = was.sound;
    now = subst (λ (l : List Operation). IsNowRight (world_in given l scope first) given members carried reshaping (entries ++ added_in l)) (sym no-more) now-later;
    counted = was.counted;
  }

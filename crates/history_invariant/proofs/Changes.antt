-- A call that changes the list's length leaves the history safe: each of its marks is seen right without the change, or with it.
use Rattle.std.proofs.Common.{◌≡◌, inl, inr, ℕ, suc, ◌+◌, ◌<◌, ◌≤◌, ◌||◌, Bool, true, false, cond, Option, Some, None, List, [], ◌∷◌, ◌++◌, length, take, drop, refl, sym, ◌∙◌, ap, ap₂, subst, arith, length-append, append_assoc}
use Rattle.std.specs.Prelude.{⊤, IsTrue}
use Rattle.std.specs.List.{list_any}
use Rattle.std.specs.Option.{option_map_or}
use Rattle.std.proofs.Math.Seq.{drop-append_seam, take-length}
use Rattle.array_call_specs.specs.raid_types_the_Who.{Who}
use Rattle.array_call_specs.specs.bank_the_Operation.{Operation}
use Rattle.array_call_specs.specs.bank_Given.{Given, sizes}
use Rattle.array_call_specs.specs.bank_Tape.{Contents, IsDrawn, disk}
use Rattle.array_call_specs.specs.sb_specs_the_Members.{Members}
use Rattle.array_call_specs.specs.sb_specs_Reading.{Scope}
use Rattle.array_call_specs.specs.history_the_Entry.{Entry}
use Rattle.array_call_specs.specs.history_the_Event.{Event}
use Rattle.array_call_specs.specs.history_the_Event_TheVariants.{Resized}
use Rattle.array_call_specs.specs.history_CrashSafe.{is_resized, last_resized, first_end, up_to, MayBeLeftOut}
use Rattle.array_call_specs.specs.history_Growing.{grown, EndBy}
use Rattle.array_call_specs.specs.history_Legal.{is_all_gone}
use Rattle.array_call_specs.specs.history_Plain.{entries_of}
use Rattle.array_call_specs.specs.history_Sound.{OpensFit}
use Rattle.array_call_specs.specs.history_World.{World}
use Rattle.array_call_specs.proofs.history_laws_OneShapeGrowing.{one, entries-both}
use Rattle.array_call_specs.specs.crash_views_Views.{Ledger, IsSeenRight}
use Rattle.array_call_specs.specs.crash_safety_laws_Changing.{IsSpentByEither, IsSafeChange}
use Rattle.array_call_specs.specs.crash_safety_laws_Safety.{HasLiveSlot, IsRisen}
use Rattle.array_call_specs.specs.crash_safety_laws_Steady.{IsMoreTold, IsSafeNow, IsSafeOver, IsSafeStretch}
use Rattle.array_call_specs.proofs.LedgerLaws.{judged_by}
use Rattle.array_call_specs.proofs.MadeLaws.{length-entries}
use Rattle.history_invariant.specs.Safe.{world_in, IsFilledRight, told_without, IsNowRight, IsSafeHistory}
use Rattle.history_invariant.specs.Told.{told_now, told_by}
use Rattle.history_invariant.proofs.Calls.{LeavesSoundFrom, sound-later, counted-later}
use Rattle.history_invariant.proofs.Growing.{fit-grown}
use Rattle.history_invariant.proofs.Ledgers.{more-then, told-ledger}
use Rattle.history_invariant.proofs.Marks.{IsSeenBefore, IsSeenAfter, safe-marks}
use Rattle.history_invariant.proofs.Seen.{seen-told, now-more, seen-now}

-- ---- the place of the change

none-resized : (xs : List Entry) → list_any (λ e. is_resized e.event) xs ≡ false → last_resized xs ≡ None
none-resized [] none = refl
none-resized (x ∷ xs) none =
    let parts = apart (is_resized x.event) (list_any (λ e. is_resized e.event) xs) none in
    ap₂ (λ (o : Option ℕ) (b : Bool). option_map_or (λ place. Some (suc place)) o (cond b (Some 0) None)) (none-resized xs parts.1) parts.0
  where
    apart : (a b : Bool) → (a || b) ≡ false → (a ≡ false) × (b ≡ false)
    apart true b e = absurd (cc)
    apart false b e = (refl, e)

-- the last change of length stands at its place
resized-at : (xs : List Entry) (e : Entry) (ys : List Entry) → is_resized e.event ≡ true → list_any (λ e. is_resized e.event) ys ≡ false → last_resized (xs ++ e ∷ ys) ≡ Some (length xs)
resized-at [] e ys is none = ap₂ (λ (o : Option ℕ) (b : Bool). option_map_or (λ place. Some (suc place)) o (cond b (Some 0) None)) (none-resized ys none) is
resized-at (x ∷ xs) e ys is none = ap (λ (o : Option ℕ). option_map_or (λ place. Some (suc place)) o (cond (is_resized x.event) (Some 0) None)) (resized-at xs e ys is none)

-- ---- a call

-- The call enters some events that are told without the change, then the change of length, with others behind it that are told while it runs, and last
-- those that stand only for its end. Where no live slot is left at its end, no slot need have kept the change.
module _ (claims : Type 0) (given : Given) (tape : List Operation) (scope : Scope) (first : ℕ) (entries : List Entry) (old new : Members) (carried carried' : ℕ → ℕ → Bool) (reshaping reshaping' : Bool)
    (who : Who) (early : List Event) (n : ℕ) (losses late : List Event) (ops : List Operation) (told more : Ledger) (sizes_are : scope.sizes ≡ sizes given) (within : first ≤ length tape) (ends : EndBy (length tape) entries)
    (fills : IsFilledRight (grown (world_in given tape scope first) ops) (entries ++ entries_of who (length (tape ++ ops)) ((early ++ Resized n ∷ losses) ++ late)))
    (was : IsSafeHistory claims (world_in given tape scope first) given old carried reshaping entries) (rise : IsRisen ⊤ old new tape (tape ++ ops))
    (sound : claims → OpensFit (grown (world_in given tape scope first) ops) → LeavesSoundFrom (world_in given tape scope first) ops)
    (less : IsMoreTold told (told_by (grown (world_in given tape scope first) ops) (λ slot number. true) true entries (entries_of who (length (tape ++ ops)) early)))
    (most : IsMoreTold more (told_by (grown (world_in given tape scope first) ops) (λ slot number. true) true entries (entries_of who (length (tape ++ ops)) (early ++ Resized n ∷ losses))))
    (change : IsSafeChange (OpensFit (world_in given tape scope first)) scope given told more new tape (tape ++ ops))
    (last : IsMoreTold more (told_now (grown (world_in given tape scope first) ops) carried' reshaping' (entries ++ entries_of who (length (tape ++ ops)) ((early ++ Resized n ∷ losses) ++ late))))
    (none_later : list_any (λ e. is_resized e.event) (entries_of who (length (tape ++ ops)) (losses ++ late)) ≡ false)
    (unkept : (HasLiveSlot new → ⊥)
    → IsTrue (is_all_gone (grown (world_in given tape scope first) ops) (length (tape ++ ops))
    (up_to (entries ++ entries_of who (length (tape ++ ops)) ((early ++ Resized n ∷ losses) ++ late)) (length (entries ++ entries_of who (length (tape ++ ops)) early))))
    × IsMoreTold told (told_without (grown (world_in given tape scope first) ops) (entries ++ entries_of who (length (tape ++ ops)) ((early ++ Resized n ∷ losses) ++ late))
    (length (entries ++ entries_of who (length (tape ++ ops)) early)))) where
  abbrev world : World
  world = world_in given tape scope first

  abbrev later : World
  later = grown (world_in given tape scope first) ops

  abbrev end : ℕ
  end = length (tape ++ ops)

  abbrev events : List Event
  events = (early ++ Resized n ∷ losses) ++ late

  abbrev before : List Entry
  before = entries_of who (length (tape ++ ops)) early

  abbrev behind : List Entry
  behind = entries_of who (length (tape ++ ops)) (losses ++ late)

  abbrev all : List Entry
  all = entries ++ entries_of who (length (tape ++ ops)) ((early ++ Resized n ∷ losses) ++ late)

  abbrev place : ℕ
  place = length (entries ++ entries_of who (length (tape ++ ops)) early)

  regroup : (xs : List Event) (x : Event) (ys zs : List Event) → (xs ++ x ∷ ys) ++ zs ≡ xs ++ x ∷ (ys ++ zs)
  regroup xs x ys zs = append_assoc xs (x ∷ ys) zs

  all-is : all ≡ entries ++ (before ++ one who end (Resized n) ∷ behind)
  all-is = ap (λ (l : List Event). entries ++ entries_of who end l) (regroup early (Resized n) losses late) ∙ ap (λ (l : List Entry). entries ++ l) (entries-both who end early (Resized n ∷ (losses ++ late)))

  all-parts : all ≡ (entries ++ before) ++ one who end (Resized n) ∷ behind
  all-parts = all-is ∙ sym (append_assoc entries before (one who end (Resized n) ∷ behind))

  all-early : all ≡ entries ++ (entries_of who end (early ++ Resized n ∷ losses) ++ entries_of who end late)
  all-early = ap (λ (l : List Entry). entries ++ l) (entries-both who end (early ++ Resized n ∷ losses) late)

  -- ---- the ledgers

  told-judged : IsMoreTold told (judged_by later all (length entries) (length (entries ++ before)))
  told-judged =
      more-then told (told_by later (λ slot number. true) true entries before) (judged_by later all (length entries) (length (entries ++ before))) less
      (subst (λ (l : List Entry). IsMoreTold (told_by later (λ slot number. true) true entries before) (judged_by later l (length entries) (length (entries ++ before)))) (sym all-is)
      (told-ledger later (λ slot number. true) true entries before (one who end (Resized n) ∷ behind)))

  abbrev with_it : List Entry
  with_it = entries_of who (length (tape ++ ops)) (early ++ Resized n ∷ losses)

  more-judged : IsMoreTold more (judged_by later all (length entries) (length (entries ++ with_it)))
  more-judged =
      more-then more (told_by later (λ slot number. true) true entries with_it) (judged_by later all (length entries) (length (entries ++ with_it))) most
      (subst (λ (l : List Entry). IsMoreTold (told_by later (λ slot number. true) true entries with_it) (judged_by later l (length entries) (length (entries ++ with_it)))) (sym all-early)
      (told-ledger later (λ slot number. true) true entries with_it (entries_of who end late)))

  fit-is : OpensFit later ≡ OpensFit world
  fit-is = fit-grown world ops within

  -- ---- a mark before its end

  few : (xs : List Event) → length (entries ++ entries_of who end xs) ≡ length entries + length xs
  few xs =
      let both : length (entries ++ entries_of who end xs) ≡ length entries + length (entries_of who end xs) = length-append entries (entries_of who end xs) in
      let count : length (entries_of who end xs) ≡ length xs = length-entries who end xs in
      omega (arith, both, count)

  parts : (xs ys : List Event) → length (xs ++ ys) ≡ length xs + length ys
  parts xs ys = length-append xs ys

  seen-early : (mark : ℕ) → length tape ≤ mark → mark < end → (c : Contents) → IsDrawn (disk given.start (take mark (tape ++ ops))) c
      → IsSeenBefore given tape scope first entries who events ops sizes_are within ends fills (disk given.start (take mark (tape ++ ops))) c
  seen-early mark low high c drawn = elim (change.marks.each tt mark low (omega (arith, high)) c (record { eighth = λ s _. drawn s 8; ninth = λ s _. drawn s 9 })) [
    | inl seen ↦ record {
      j = length (entries ++ before);
      some = let count = few early in omega (arith, count);
      most = let count = few early in let one = parts (early ++ Resized n ∷ losses) late in let two = parts early (Resized n ∷ losses) in omega (arith, count, one, two);
      seen = subst (λ (fit : Type 0). IsSeenRight fit scope given (judged_by later all (length entries) (length (entries ++ before))) (disk given.start (take mark (tape ++ ops))) c) (sym fit-is)
          (seen-told (OpensFit world) scope given told (judged_by later all (length entries) (length (entries ++ before))) told-judged (disk given.start (take mark (tape ++ ops))) c seen);
    }
    | inr seen ↦ record {
      j = length (entries ++ with_it);
      some = let count = few (early ++ Resized n ∷ losses) in omega (arith, count);
      most = let count = few (early ++ Resized n ∷ losses) in let one = parts (early ++ Resized n ∷ losses) late in omega (arith, count, one);
      seen = subst (λ (fit : Type 0). IsSeenRight fit scope given (judged_by later all (length entries) (length (entries ++ with_it))) (disk given.start (take mark (tape ++ ops))) c) (sym fit-is)
          (seen-told (OpensFit world) scope given more (judged_by later all (length entries) (length (entries ++ with_it))) more-judged (disk given.start (take mark (tape ++ ops))) c seen);
    }
  ]

  -- ---- its end

  left-out : (HasLiveSlot new → ⊥) → MayBeLeftOut later all (length all) place
  left-out none = record {
    last =
        ap last_resized (take-length all ∙ all-parts)
        ∙ resized-at (entries ++ before) (one who end (Resized n)) behind refl none_later;
    gone = ap (λ (m : ℕ). is_all_gone later m (up_to all place)) (ap (λ (l : List Entry). first_end (drop place l)) all-parts ∙ ap first_end (drop-append_seam (entries ++ before) (one who end (Resized n) ∷ behind)))
        ∙ (unkept none).0;
  }

  now-either : IsNowRight later given new carried' reshaping' all
  now-either = elim change.next [
    | inl named ↦ inl (subst (λ (fit : Type 0). IsSafeNow fit scope given (told_now later carried' reshaping' all) new (disk given.start (tape ++ ops))) (sym fit-is)
        (now-more (OpensFit world) scope given more (told_now later carried' reshaping' all) new (disk given.start (tape ++ ops)) last (inl named.steady)))
    | inr spent ↦ inr (record {
      place = place;
      left_out = left-out spent.none;
      spent = subst (λ (fit : Type 0). IsSpentByEither fit scope given (told_without later all place) (told_now later carried' reshaping' all) new (disk given.start (tape ++ ops))) (sym fit-is) (record {
        right = λ c drawn. elim (spent.right c drawn) [
          | inl seen ↦ inl (seen-told (OpensFit world) scope given told (told_without later all place) (unkept spent.none).1 (disk given.start (tape ++ ops)) c seen)
          | inr seen ↦ inr (seen-told (OpensFit world) scope given more (told_now later carried' reshaping' all) last (disk given.start (tape ++ ops)) c seen)
        ];
        none = spent.none;
      });
    })
  ]

  seen-last : (c : Contents) → IsDrawn (disk given.start (tape ++ ops)) c → IsSeenAfter given tape scope first entries who events ops sizes_are within ends fills (disk given.start (tape ++ ops)) c
  seen-last = seen-now given tape scope first entries who events ops sizes_are within ends fills new carried' reshaping' now-either

  pub safe-change : IsSafeHistory claims later given new carried' reshaping' all
  safe-change = record {
    past = safe-marks given tape scope first entries who events ops sizes_are within ends fills was.past seen-early seen-last;
    sound = sound-later claims world ops within was.sound sound;
    now = now-either;
    counted = counted-later world old new ops within rise was.counted;
  }

-- ---- a call that tells more, and keeps the length

-- where no live slot is left, what was told before is told at its end too
safe-either : (sound : Type 0) (scope : Scope) (given : Given) (told more all : Ledger) (new : Members) (tape tape' : List Operation) → IsSafeChange sound scope given told more new tape tape'
    → IsMoreTold more all → ((HasLiveSlot new → ⊥) → IsMoreTold told all) → IsSafeNow sound scope given all new (disk given.start tape')
safe-either sound scope given told more all new tape tape' change most less = elim change.next [
  | inl named ↦ now-more sound scope given more all new (disk given.start tape') most (inl named.steady)
  | inr spent ↦ inr (record {
    right = λ c drawn. elim (spent.right c drawn) [
      | inl seen ↦ seen-told sound scope given told all (less spent.none) (disk given.start tape') c seen
      | inr seen ↦ seen-told sound scope given more all most (disk given.start tape') c seen
    ];
    none = spent.none;
  })
]

-- Where the call tells as much as both, it is a stretch by that.
pub either-stretch : (sound : Type 0) (scope : Scope) (given : Given) (told more all : Ledger) (new : Members) (tape tape' : List Operation) → IsMoreTold told all → IsMoreTold more all
    → IsSafeChange sound scope given told more new tape tape' → IsSafeStretch sound scope given all new tape tape'
either-stretch sound scope given told more all new tape tape' less most change = record {
  marks = record {
    longer = change.marks.longer;
    earlier = change.marks.earlier;
    each = λ so mark low high c drawn. elim (change.marks.each so mark low high c drawn) [
      | inl seen ↦ seen-told sound scope given told all less (disk given.start (take mark tape')) c seen
      | inr seen ↦ seen-told sound scope given more all most (disk given.start (take mark tape')) c seen
    ];
  };
  next = safe-either sound scope given told more all new tape tape' change most (λ none. less);
}

-- And at its end it is safe by the whole history, where that tells as much as the later ledger; where no live slot is left, as the former one too.
pub either-last : (world : World) (given : Given) (told more all : Ledger) (new : Members) (tape tape' : List Operation) → IsSafeChange (OpensFit world) world.scope given told more new tape tape'
    → IsMoreTold more all → ((HasLiveSlot new → ⊥) → IsMoreTold told all) → IsSafeOver world given all new tape'
either-last world given told more all new tape tape' change most less = safe-either (OpensFit world) world.scope given told more all new tape tape' change most less

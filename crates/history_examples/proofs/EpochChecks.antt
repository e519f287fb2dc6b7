-- A short epoch over the created array: its history is legal, and its opening mark is safe.
use Rattle.std.proofs.Common.{◌≡◌, ℕ, zero, suc, ◌+◌, ◌<◌, inl, inr, List, [], ◌∷◌, refl, sym, subst, None, length, get_or, take, drop, ap, lit≤, arith, not-suc-le-zero, Bool, ◌&&◌, ◌==◌, if◌then◌else◌, subst₂, ◌∙◌, Option, ◌⊎◌, true, false, Some, ◌≤◌, zero-le}
use Rattle.history.specs.raid_types_the_Refusal_TheVariants.{PastEnd, DirtyDegraded, MembersMissing}
use Rattle.history.specs.raid_types_the_Refusal.{Refusal}
use Rattle.history.specs.raid_types_Search.{tabulate, least_below, count_below, any_below}
use Rattle.history.specs.declared.events.Event.TheVariants.{Read, Wrote, Flushed, Lost, Failed, Refused}
use Rattle.history.specs.declared.events.LostCause.TheVariants.{Command}
use Rattle.history.specs.declared.events.Entry.{Entry}
use Rattle.history.proofs.bank_Images.{image-drawn, drawn-image}
use Rattle.history.specs.bank_the_Operation.{Operation}
use Rattle.history.specs.bank_Tape.{Contents, IsImage, IsIn}
use Rattle.history.specs.World.{World, opening_list}
use Rattle.history.specs.bank_the_Operation_TheVariants.{Write}
use Rattle.history.specs.sb_specs_Reading.{reading}
use Rattle.history.specs.Stands.{stands, verdict}
use Rattle.history.specs.Flat.{values_of, IsAllowed}
use Rattle.history.specs.Legal.{IsLegal}
use Rattle.history.specs.CrashSafe.{IsSafeAt, IsJudged, StandsFor, MayBeJudgedBy, IsRefusedRightly}
use Rattle.history_examples.proofs.ReadingChecks.{whole, scope}

abbrev pub world : World
world = record { start = whole; tape = []; scope = scope; first = 0 }

abbrev read_one : Entry
read_one = record { caller = 0; number = 0; end = 0; event = Read 9 ((1 ∷ 1 ∷ []) ∷ []) }

abbrev past_end : Entry
past_end = record { caller = 0; number = 1; end = 0; event = Refused (PastEnd 80) }

list_is_80 : length (opening_list world) ≡ 80
unfolding tabulate opening_list stands reading
list_is_80 = refl

legal : IsLegal world (read_one ∷ past_end ∷ [])
unfolding tabulate opening_list stands reading values_of
legal = (
  record {
    numbered = inr refl;
    timed = record { rises = lit≤ tt; within = lit≤ tt };
    inner = tt;
    opening = tt;
    event = record { within = lit≤ tt; holds = is_held };
  },
  (
    record {
      numbered = inr refl;
      timed = record { rises = lit≤ tt; within = lit≤ tt };
      inner = tt;
      opening = tt;
      event = refl;
    },
    tt,
  ),
)
  where
    is_held : (i : ℕ) → i < 1 → get_or ((1 ∷ 1 ∷ []) ∷ []) i [] ≡ get_or (values_of (opening_list world) [] (9 + i)) 0 []
    is_held zero h = refl
    is_held (suc i) h = absurd (omega (arith, h))

-- with nothing done yet, the only image is what was there at first
pub only-start : (start : Contents) (tape : List Operation) (c : Contents) → IsImage start tape 0 c → c ≡ start
only-start start tape c image = λ i s k. only (image-drawn start tape 0 c zero-le image s k) i
  where
    only : {x y : List ℕ} → IsIn (y ∷ []) x → x ≡ y
    only (inl same) = same
    only (inr none) = absurd none

-- at the opening each sector may have the value that it has
pub first-allowed : (list : List (List ℕ)) (x : ℕ) → x < length list → IsIn (take 1 (drop x list)) (get_or list x [])
first-allowed [] x h = absurd (not-suc-le-zero h)
first-allowed (value ∷ list) zero h = inl refl
first-allowed (value ∷ list) (suc x) h = first-allowed list x (omega (arith, h))

pub start-allowed : (x : ℕ) → x < length (opening_list world) → IsAllowed (opening_list world) [] x (get_or (opening_list world) x [])
unfolding values_of
start-allowed x h = first-allowed (opening_list world) x h

pub same-list : stands world.scope whole ≡ opening_list world
unfolding opening_list
same-list = refl

pub assembles : verdict world.scope whole ≡ None
unfolding tabulate least_below count_below any_below reading verdict
assembles = refl

judged-start : IsJudged world [] 0 whole
judged-start = record {
  j = 0;
  made = lit≤ tt;
  running = lit≤ tt;
  judgement = inl (
    [],
    inl refl,
    record {
      assembles = assembles;
      sized = ap length same-list;
      sectors = λ x h. subst (λ l. x < length l → IsAllowed (opening_list world) [] x (get_or l x [])) (sym same-list) (start-allowed x) h;
    },
  );
}

safe-start : IsSafeAt world [] 0
safe-start c image = subst (λ c. IsJudged world [] 0 c) (sym (only-start world.start world.tape c image)) judged-start

-- a read of another value, and a write entered under the opening's number, aren't legal
abbrev read_other : Entry
read_other = record { caller = 0; number = 0; end = 0; event = Read 9 ((2 ∷ []) ∷ []) }

not-read : IsLegal world (read_other ∷ []) → ⊥
unfolding tabulate opening_list stands reading values_of
not-read is_legal = two-not-one (is_legal.0.event.holds 0 (lit≤ tt))
  where
    two-not-one : ◌≡◌ {A = List ℕ} (2 ∷ []) (1 ∷ 1 ∷ []) → ⊥
    two-not-one wrong = absurd (cc)

abbrev invented : Entry
invented = record { caller = 254; number = 0; end = 0; event = Wrote 0 ((2 ∷ []) ∷ []) }

not-invented : IsLegal world (invented ∷ []) → ⊥
not-invented is_legal = is_legal.0.opening

-- a role is failed by a call that enters its loss, and by no other
abbrev lost_one : Entry
lost_one = record { caller = 0; number = 0; end = 0; event = Lost 1 Command }

abbrev failed_one : Entry
failed_one = record { caller = 0; number = 0; end = 0; event = Failed 1 }

failed : IsLegal world (lost_one ∷ failed_one ∷ [])
failed = (
  record { numbered = inr refl; timed = record { rises = lit≤ tt; within = lit≤ tt }; inner = tt; opening = tt; event = refl },
  (
    record { numbered = inl refl; timed = record { rises = lit≤ tt; within = lit≤ tt }; inner = tt; opening = tt; event = refl },
    tt,
  ),
)

not-failed : IsLegal world (failed_one ∷ []) → ⊥
not-failed is_legal = wrong is_legal.0.event
  where
    wrong : false ≡ true → ⊥
    wrong same = absurd (cc)

-- ---- a flush that flushes nothing is found out

-- sector 9 is written, and Flushed is answered with no flush on the tape
abbrev lying : World
lying = record { start = whole; tape = Write 1 17 (5 ∷ []) ∷ []; scope = scope; first = 0 }

abbrev lie : List Entry
lie = record { caller = 0; number = 0; end = 1; event = Wrote 9 ((5 ∷ []) ∷ []) }
    ∷ record { caller = 0; number = 1; end = 1; event = Flushed } ∷ []

-- the image without the write
without : IsImage lying.start lying.tape 1 whole
without = drawn-image lying.start lying.tape 1 whole (lit≤ tt) (λ s k. either ((1 == s) && (17 == k)) (whole s k))
  where
    either : (b : Bool) (old : List ℕ) → IsIn (if b then (5 ∷ []) ∷ old ∷ [] else old ∷ []) old
    either true old = inr (inl refl)
    either false old = inl refl

-- after the answer only the new value is allowed
only-new : values_of (opening_list lying) lie 9 ≡ (5 ∷ []) ∷ []
unfolding values_of
only-new = refl

stands-old : get_or (stands scope whole) 9 [] ≡ 1 ∷ 1 ∷ []
unfolding tabulate stands reading
stands-old = refl

has-ninth : 9 < length (stands scope whole)
unfolding tabulate stands reading
has-ninth = lit≤ tt

not-old : StandsFor lying lie whole → ⊥
not-old stood = wrong (subst₂ IsIn only-new stands-old (stood.sectors 9 has-ninth))
  where
    wrong : IsIn ((5 ∷ []) ∷ []) (1 ∷ 1 ∷ []) → ⊥
    wrong (inl same) = absurd (cc)
    wrong (inr none) = none

not-refused : (refusal : Refusal) → verdict scope whole ≡ Some refusal → ⊥
not-refused refusal refused = wrong (sym assembles ∙ refused)
  where
    wrong : ◌≡◌ {A = Option Refusal} None (Some refusal) → ⊥
    wrong same = absurd (cc)

no-resized : (place : ℕ) → ◌≡◌ {A = Option ℕ} None (Some place) → ⊥
no-resized place same = absurd (cc)

not-judged : IsJudged lying lie 1 whole → ⊥
not-judged judged = by_kind judged.judgement
  where
    two : judged.j ≡ 2
    two = let least : 2 ≤ judged.j = judged.made in let most : judged.j ≤ 2 = judged.running in omega (arith, least, most)

    by_kind : ((by : List Entry) × MayBeJudgedBy lying lie 2 judged.j by × StandsFor lying by whole) ⊎ IsRefusedRightly lying lie 2 judged.j whole → ⊥
    by_kind (inl (by, inl is, stood)) = not-old (subst (λ l. StandsFor lying l whole) (is ∙ ap (λ j. take j lie) two) stood)
    by_kind (inl (by, inr out, stood)) = no-resized out.0 out.1.last
    by_kind (inr (inl dirty)) = not-refused (DirtyDegraded dirty.role) dirty.refused
    by_kind (inr (inr missing)) = not-refused (MembersMissing missing.count missing.tolerance) missing.refused

not-safe : IsSafeAt lying lie 1 → ⊥
not-safe safe = not-judged (safe whole without)

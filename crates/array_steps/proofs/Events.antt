-- The entries of a step: what may stand in them, and what they tell.
use Rattle.std.proofs.Common.{◌≡◌, inl, inr, ℕ, zero, suc, ◌+◌, ◌<◌, ◌≤◌, ◌==◌, ◌||◌, ◌++◌, Bool, true, false, cond, Option, List, [], ◌∷◌, length, drop, refl, sym, ◌∙◌, ap, arith, append_assoc}
use Rattle.std.proofs.Math.Seq.{drop-append_seam}
use Rattle.std.proofs.lemmas.Bool.Decides.{nat_tests}
use Rattle.std.proofs.lemmas.List.Elements.{All-nil, All-cons, All-append, All-head, All-tail}
use Rattle.std.proofs.lemmas.List.Folds.{list_any-append}
use Rattle.std.proofs.lemmas.List.Sums.{sum_by-append}
use Rattle.std.specs.Prelude.{count_by, slice_index_or, ⊤}
use Rattle.std.specs.List.{All, Contains, list_any}
use Rattle.array.specs.raid_types_the_Refusal.{Refusal}
use Rattle.array.specs.raid_types_the_Who.{Who}
use Rattle.array.specs.history_the_Entry.{Entry}
use Rattle.array.specs.history_the_Event.{Event}
use Rattle.array.specs.history_the_Event_TheVariants.{Lost, SpareLost, Rebuilt, Resized, Step, Refused}
use Rattle.array.specs.history_the_LostCause_TheVariants.{Fault}
use Rattle.array.specs.history_the_StepKind_TheVariants.{Finished}
use Rattle.array.specs.history_Fits.{is_step_event, is_lost_event}
use Rattle.array.specs.history_Flat.{length_of}
use Rattle.array.specs.history_OneShape.{IsOfCall}
use Rattle.array.specs.history_Plain.{entries_of}
use Rattle.array.specs.history_Reshaped.{is_done}
use Rattle.array.specs.history_append_Losing.{losses_of}
use Rattle.array.proofs.history_append_PlainLaws.{one}
use Rattle.array.proofs.history_append_CallLaws.{AreLossEvents, losses-are}
use Rattle.array.specs.array_call_specs_Calls.{IsRoleLost}
use Rattle.array.specs.history_invariant_Recorded.{MayGoOn, IsCallGoing}
use Rattle.array.specs.array_transition_Begun.{is_resize, HasKeptLength}
use Rattle.array.specs.array_reply_specs_Replies.{IsRefusalToldBy}
use Rattle.array.specs.array_reply_specs_Going.{is_finish}
use Rattle.array_steps.specs.Steps.{TellsLeft, TellOneStep}

-- ---- what stands behind the old entries

pub same-rest : (old a b new : List Entry) → new ≡ old ++ a → new ≡ old ++ b → a ≡ b
same-rest old a b new first second = sym (drop-append_seam old a) ∙ ap (drop (length old)) (sym first ∙ second) ∙ drop-append_seam old b

-- ---- a fact of each event

abbrev pub EachOf : (Event → Type 0) → List Event → Type 0
EachOf P [] = ⊤
EachOf P (x ∷ xs) = P x × EachOf P xs

each-append : (P : Event → Type 0) (xs ys : List Event) → EachOf P xs → EachOf P ys → EachOf P (xs ++ ys)
each-append P [] ys first second = second
each-append P (x ∷ xs) ys first second = (first.0, each-append P xs ys first.1 second)

each-loss : (P : Event → Type 0) → ((role : ℕ) → P (Lost role Fault)) → ((slot : ℕ) → P (SpareLost slot)) → (xs : List Event) → AreLossEvents xs → EachOf P xs
each-loss P role spare [] are = tt
each-loss P role spare (Lost r Fault ∷ xs) are = (role r, each-loss P role spare xs are)
each-loss P role spare (SpareLost s ∷ xs) are = (spare s, each-loss P role spare xs are)
each-loss P role spare (event ∷ xs) are = absurd are

-- losses, and events behind them
pub each-behind : (P : Event → Type 0) → ((role : ℕ) → P (Lost role Fault)) → ((slot : ℕ) → P (SpareLost slot)) → (roles spares : ℕ) (tail : List Event) → EachOf P tail → EachOf P (losses_of roles spares ++ tail)
each-behind P role spare roles spares tail rest = each-append P (losses_of roles spares) tail (each-loss P role spare (losses_of roles spares) (losses-are roles spares)) rest

pub each-losses : (P : Event → Type 0) → ((role : ℕ) → P (Lost role Fault)) → ((slot : ℕ) → P (SpareLost slot)) → (roles spares : ℕ) → EachOf P (losses_of roles spares)
each-losses P role spare roles spares = each-loss P role spare (losses_of roles spares) (losses-are roles spares)

pub each-entry : (P : Event → Type 0) (who : Who) (end : ℕ) (xs : List Event) → EachOf P xs → All (λ e. P e.event) (entries_of who end xs)
each-entry P who end [] each = All-nil (λ e. P e.event)
each-entry P who end (x ∷ xs) each = All-cons (λ e. P e.event) (one who end x) (entries_of who end xs) each.0 (each-entry P who end xs each.1)

-- they are of the call
pub each-own : (P : Event → Type 0) (who : Who) (end : ℕ) (xs : List Event) → EachOf P xs → All (λ e. IsOfCall who e × P e.event) (entries_of who end xs)
each-own P who end [] each = All-nil (λ e. IsOfCall who e × P e.event)
each-own P who end (x ∷ xs) each = All-cons (λ e. IsOfCall who e × P e.event) (one who end x) (entries_of who end xs) ((refl, refl), each.0) (each-own P who end xs each.1)

-- ---- tests of entries

neither : (a b : Bool) → a ≡ false → b ≡ false → (a || b) ≡ false
neither false b first second = second
neither true b first second = absurd (cc)

pub any-none : (p : Event → Bool) (P : Event → Type 0) → ((event : Event) → P event → p event ≡ false) → (xs : List Entry) → All (λ e. P e.event) xs → list_any (λ e. p e.event) xs ≡ false
any-none p P none [] all = refl
any-none p P none (x ∷ xs) all =
    neither (p x.event) (list_any (λ e. p e.event) xs) (none x.event (All-head (λ e. P e.event) x xs all)) (any-none p P none xs (All-tail (λ e. P e.event) x xs all))

-- ---- how many of them are of a kind

pub count-both : (p : Event → Bool) (xs ys : List Entry) → count_by (λ e. p e.event) (xs ++ ys) ≡ count_by (λ e. p e.event) xs + count_by (λ e. p e.event) ys
count-both p xs ys = sum_by-append (λ e. cond (p e.event) 1 0) xs ys

count-first : (p : Event → Bool) (x : Entry) (xs : List Entry) (b : Bool) → p x.event ≡ b → count_by (λ e. p e.event) (x ∷ xs) ≡ cond b 1 0 + count_by (λ e. p e.event) xs
count-first p x xs b is =
    let here : ◌≡◌ {A = ℕ} (count_by (λ e. p e.event) (x ∷ [])) (0 + cond b 1 0) = ap (λ (t : Bool). 0 + cond t 1 0) is in
    let both = count-both p (x ∷ []) xs in omega (arith, both, here)

-- no step
abbrev pub IsNoStep : Event → Type 0
IsNoStep event = is_step_event event ≡ false

pub count-none : (who : Who) (end : ℕ) (xs : List Event) → EachOf IsNoStep xs → count_by (λ e. is_step_event e.event) (entries_of who end xs) ≡ 0
count-none who end [] each = refl
count-none who end (x ∷ xs) each =
    let first = count-first is_step_event (one who end x) (entries_of who end xs) false each.0 in
    let rest = count-none who end xs each.1 in omega (arith, first, rest)

-- a step among others that are none
pub count-one : (who : Who) (end : ℕ) (xs : List Event) (x : Event) (ys : List Event) → EachOf IsNoStep xs → is_step_event x ≡ true → EachOf IsNoStep ys
    → count_by (λ e. is_step_event e.event) (entries_of who end (xs ++ x ∷ ys)) ≡ 1
count-one who end [] x ys before is after =
    let first = count-first is_step_event (one who end x) (entries_of who end ys) true is in
    let rest = count-none who end ys after in omega (arith, first, rest)
count-one who end (y ∷ xs) x ys before is after =
    let first = count-first is_step_event (one who end y) (entries_of who end (xs ++ x ∷ ys)) false before.0 in
    let rest = count-one who end xs x ys before.1 is after in omega (arith, first, rest)

-- a loss of a role that is among events is counted
count-lost : (who : Who) (end : ℕ) (event : Event) (events : List Event) → is_lost_event event ≡ true → Contains events event → 1 ≤ count_by (λ e. is_lost_event e.event) (entries_of who end events)
count-lost who end event events lost among = by events among.0 among.1 among.2
  where
    next : (x : Event) (xs : List Event) → count_by (λ e. is_lost_event e.event) (entries_of who end (x ∷ xs)) ≡ cond (is_lost_event x) 1 0 + count_by (λ e. is_lost_event e.event) (entries_of who end xs)
    next x xs = count-first is_lost_event (one who end x) (entries_of who end xs) (is_lost_event x) refl

    by : (xs : List Event) (k : ℕ) → suc k ≤ length xs → slice_index_or xs k event ≡ event → 1 ≤ count_by (λ e. is_lost_event e.event) (entries_of who end xs)
    by [] k lt is = absurd (omega (arith, lt))
    by (x ∷ xs) zero lt is = let here : ◌≡◌ {A = ℕ} (cond (is_lost_event x) 1 0) 1 = ap (λ (b : Bool). cond b 1 0) (ap is_lost_event is ∙ lost) in omega (arith, here, next x xs)
    by (x ∷ xs) (suc k) lt is = let rest = by xs k (omega (arith, lt)) is in omega (arith, rest, next x xs)

-- ---- what a step enters that neither begins nor ends a reshape

abbrev pub IsOfStep : ℕ → Event → Type 0
IsOfStep left (Step Finished told) = ⊥
IsOfStep left (Step kind told) = told ≡ left
IsOfStep left (Lost role Fault) = ⊤
IsOfStep left (SpareLost slot) = ⊤
IsOfStep left (Rebuilt role) = ⊤
IsOfStep left event = ⊥

pub of-goes : (left : ℕ) (event : Event) → IsOfStep left event → MayGoOn event
of-goes left (Step Finished told) is = absurd is
of-goes left (Step kind told) is = tt
of-goes left (Lost role Fault) is = tt
of-goes left (SpareLost slot) is = tt
of-goes left (Rebuilt role) is = tt
of-goes left event is = absurd is

pub of-told : (left : ℕ) (event : Event) → IsOfStep left event → TellsLeft left event
of-told left (Step Finished told) is = absurd is
of-told left (Step kind told) is = is
of-told left event is = tt

pub of-lengthless : (left : ℕ) (event : Event) → IsOfStep left event → is_resize event ≡ false
of-lengthless left (Resized n) is = absurd is
of-lengthless left event is = refl

pub of-unfinished : (left : ℕ) (event : Event) → IsOfStep left event → is_finish event ≡ false
of-unfinished left (Step Finished told) is = absurd is
of-unfinished left (Step kind told) is = refl
of-unfinished left event is = refl

pub of-undone : (left : ℕ) → 0 < left → (event : Event) → IsOfStep left event → is_done event ≡ false
of-undone left some (Step Finished told) is = absurd is
of-undone left some (Step kind told) is = ap (λ (n : ℕ). n == 0) is ∙ not-none left some
  where
    not-none : (n : ℕ) → 0 < n → (n == 0) ≡ false
    not-none n more = grind (arith, nat_tests, more)
of-undone left some (Lost role Fault) is = refl
of-undone left some (SpareLost slot) is = refl
of-undone left some (Rebuilt role) is = refl
of-undone left some event is = absurd is

pub of-unrefused : (left : ℕ) (backup : Option ℕ) (before now : ℕ → ℕ) (event : Event) → IsOfStep left event → IsRefusalToldBy backup before now event
of-unrefused left backup before now (Step Finished told) is = absurd is
of-unrefused left backup before now (Step kind told) is = tt
of-unrefused left backup before now (Lost role Fault) is = tt
of-unrefused left backup before now (SpareLost slot) is = tt
of-unrefused left backup before now (Rebuilt role) is = tt
of-unrefused left backup before now event is = absurd is

-- it entered these, one step or the loss of a role among them
pub record IsStepEntries (who : Who) (old new : List Entry) (left : ℕ) : Type 0 where
  pub inner : List Entry
  pub is : new ≡ old ++ inner
  pub own : All (λ e. IsOfCall who e × IsOfStep left e.event) inner
  pub one : TellOneStep inner

pub entries-behind : (who : Who) (old new : List Entry) (left : ℕ) (roles spares end : ℕ) (x : Event) (tail : List Event) → new ≡ old ++ entries_of who end (losses_of roles spares ++ x ∷ tail)
    → EachOf (IsOfStep left) (x ∷ tail) → is_step_event x ≡ true → EachOf IsNoStep tail → IsStepEntries who old new left
entries-behind who old new left roles spares end x tail is each step none = record {
  inner = entries_of who end (losses_of roles spares ++ x ∷ tail);
  is = is;
  own = each-own (IsOfStep left) who end (losses_of roles spares ++ x ∷ tail) (each-behind (IsOfStep left) (λ role. tt) (λ slot. tt) roles spares (x ∷ tail) each);
  one = inl (count-one who end (losses_of roles spares) x tail (each-losses IsNoStep (λ role. refl) (λ slot. refl) roles spares) step none);
}

pub entries-lost : (who : Who) (old new : List Entry) (left role : ℕ) → IsRoleLost who old new role → IsStepEntries who old new left
entries-lost who old new left role was = record {
  inner = entries_of who was.end (losses_of was.roles was.spares);
  is = was.is;
  own = each-own (IsOfStep left) who was.end (losses_of was.roles was.spares) (each-losses (IsOfStep left) (λ r. tt) (λ s. tt) was.roles was.spares);
  one = inr (
    count-none who was.end (losses_of was.roles was.spares) (each-losses IsNoStep (λ r. refl) (λ s. refl) was.roles was.spares),
    count-lost who was.end (Lost role Fault) (losses_of was.roles was.spares) refl was.among,
  );
}

-- ---- the length of the list

-- entries that change no length leave it
pub long-kept : (xs : List Entry) → list_any (λ e. is_resize e.event) xs ≡ false → (n : ℕ) → length_of n xs ≡ n
long-kept [] none n = refl
long-kept (x ∷ xs) none n =
    let parts = either (is_resize x.event) (list_any (λ e. is_resize e.event) xs) none in
    by x.event parts.0 (long-kept xs parts.1 n)
  where
    either : (a b : Bool) → (a || b) ≡ false → (a ≡ false) × (b ≡ false)
    either false b is = (refl, is)
    either true b is = absurd (cc)

    by : (event : Event) → is_resize event ≡ false → length_of n xs ≡ n → length_of n (record x { event = event } ∷ xs) ≡ n
    by (Resized m) none rest = absurd (cc)
    by event none rest = rest

-- ---- the call goes on

pub going-more : {old new : List Entry} {who : Who} (inner : List Entry) → IsCallGoing old who → new ≡ old ++ inner → All (λ e. IsOfCall who e × MayGoOn e.event) inner → IsCallGoing new who
going-more {who = who} inner was is own = record {
  before = was.before;
  call = was.call ++ inner;
  is = is ∙ ap (λ (l : List Entry). l ++ inner) was.is ∙ append_assoc was.before was.call inner;
  own = All-append (λ e. IsOfCall who e × MayGoOn e.event) was.call inner was.own own;
  number = was.number;
}

-- and has changed no length so far
pub kept-more : {old new : List Entry} {who : Who} (inner : List Entry) → HasKeptLength old who → new ≡ old ++ inner → All (λ e. IsOfCall who e × MayGoOn e.event) inner
    → list_any (λ e. is_resize e.event) inner ≡ false → list_any (λ e. is_done e.event) inner ≡ false → HasKeptLength new who
unfolding going-more
kept-more {who = who} inner was is own lengthless undone = record {
  goes = going-more inner was.goes is own;
  lengths = list_any-append (λ e. is_resize e.event) was.goes.call inner ∙ neither (list_any (λ e. is_resize e.event) was.goes.call) (list_any (λ e. is_resize e.event) inner) was.lengths lengthless;
  steps = list_any-append (λ e. is_done e.event) was.goes.call inner ∙ neither (list_any (λ e. is_done e.event) was.goes.call) (list_any (λ e. is_done e.event) inner) was.steps undone;
}

-- a refusal, behind losses
pub refused-own : (who : Who) (end roles spares : ℕ) (refusal : Refusal) → All (λ e. IsOfCall who e × MayGoOn e.event) (entries_of who end (losses_of roles spares ++ Refused refusal ∷ []))
refused-own who end roles spares refusal =
    each-own MayGoOn who end (losses_of roles spares ++ Refused refusal ∷ []) (each-behind MayGoOn (λ role. tt) (λ slot. tt) roles spares (Refused refusal ∷ []) (tt, tt))

-- What entries tell of a reshape: whether one may be active behind them, or ahead.
use Rattle.std.proofs.Common.{◌≡◌, ◌&&◌, ◌||◌, ◌==◌, not, Bool, true, false, is_some, List, [], ◌∷◌, ◌++◌, fold, refl, sym, ◌∙◌, All}
use Rattle.std.proofs.lemmas.List.Sums.{fold-append}
use Rattle.std.proofs.lemmas.List.Elements.{All-head, All-tail, All-weaker}
use Rattle.std.specs.List.{list_any}
use Rattle.history_append.specs.history_the_Entry.{Entry}
use Rattle.history_append.specs.history_the_Event.{Event}
use Rattle.history_append.specs.history_the_Event_TheVariants.{Planned, Step, Stepped, Shown}
use Rattle.history_append.specs.history_the_StepKind_TheVariants.{Begun}
use Rattle.history_append.specs.history_Legal.{MayBeInner}
use Rattle.history_append.specs.history_Reshaped.{is_planned}
use Rattle.array_open.specs.array_reply_specs_Going.{is_begin}
use Rattle.array_requests.specs.Turning.{active_after, ahead_after, may_be_active, may_be_ahead}

-- ---- an event that doesn't tell that no step is left ends nothing

abbrev pub none_left : Event → Bool
none_left (Stepped done left ended) = left == 0
none_left event = false

-- where it leaves none that may be active, or ahead, there was none before
record IsKept (event : Event) : Type 0 where
  active : (b : Bool) → active_after b event ≡ false → b ≡ false
  ahead : (b : Bool) → ahead_after b event ≡ false → b ≡ false

neither-first : (a b : Bool) → (a || b) ≡ false → a ≡ false
neither-first false b is = refl
neither-first true b is = absurd (cc)

still-some : (b none : Bool) → none ≡ false → (b && not none) ≡ false → b ≡ false
still-some false none is some = refl
still-some true false is some = absurd (cc)
still-some true true is some = absurd (cc)

kept : (event : Event) → none_left event ≡ false → IsKept event
kept (Shown status) some = record { active = λ b none. neither-first b (is_some status.target) none; ahead = λ b none. none }
kept (Step Begun left) some = record { active = λ b none. absurd (cc); ahead = λ b none. none }
kept (Planned left wish) some = record { active = λ b none. none; ahead = λ b none. absurd (cc) }
kept (Stepped done left ended) some = record { active = λ b none. still-some b (left == 0) some none; ahead = λ b none. still-some b (left == 0) some none }
kept event some = record { active = λ b none. none; ahead = λ b none. none }

abbrev pub TellsSome : Entry → Type 0
TellsSome e = none_left e.event ≡ false

active-kept : (entries : List Entry) → All TellsSome entries → (b : Bool) → fold (λ active e. active_after active e.event) b entries ≡ false → b ≡ false
active-kept [] all b none = none
active-kept (e ∷ entries) all b none =
    (kept e.event (All-head TellsSome e entries all)).active b (active-kept entries (All-tail TellsSome e entries all) (active_after b e.event) none)

ahead-kept : (entries : List Entry) → All TellsSome entries → (b : Bool) → fold (λ ahead e. ahead_after ahead e.event) b entries ≡ false → b ≡ false
ahead-kept [] all b none = none
ahead-kept (e ∷ entries) all b none =
    (kept e.event (All-head TellsSome e entries all)).ahead b (ahead-kept entries (All-tail TellsSome e entries all) (ahead_after b e.event) none)

-- nor do they tell one then that begins, or is planned
pub both-none : (a b : Bool) → a ≡ false → b ≡ false → (a || b) ≡ false
both-none false b first second = second
both-none true b first second = absurd (cc)

begun-active : (event : Event) (b : Bool) → active_after b event ≡ false → is_begin event ≡ false
begun-active (Step Begun left) b none = absurd (cc)
begun-active event b none = refl

planned-ahead : (event : Event) (b : Bool) → ahead_after b event ≡ false → is_planned event ≡ false
planned-ahead (Planned left wish) b none = absurd (cc)
planned-ahead event b none = refl

begins-none : (entries : List Entry) → All TellsSome entries → (b : Bool) → fold (λ active e. active_after active e.event) b entries ≡ false → list_any (λ e. is_begin e.event) entries ≡ false
begins-none [] all b none = refl
begins-none (e ∷ entries) all b none =
    both-none (is_begin e.event) (list_any (λ x. is_begin x.event) entries)
    (begun-active e.event b (active-kept entries (All-tail TellsSome e entries all) (active_after b e.event) none)) (begins-none entries (All-tail TellsSome e entries all) (active_after b e.event) none)

plans-none : (entries : List Entry) → All TellsSome entries → (b : Bool) → fold (λ ahead e. ahead_after ahead e.event) b entries ≡ false → list_any (λ e. is_planned e.event) entries ≡ false
plans-none [] all b none = refl
plans-none (e ∷ entries) all b none =
    both-none (is_planned e.event) (list_any (λ x. is_planned x.event) entries)
    (planned-ahead e.event b (ahead-kept entries (All-tail TellsSome e entries all) (ahead_after b e.event) none)) (plans-none entries (All-tail TellsSome e entries all) (ahead_after b e.event) none)

-- behind a history
module _ (old more : List Entry) (all : All TellsSome more) where
  active-split : may_be_active (old ++ more) ≡ false → fold (λ active e. active_after active e.event) (may_be_active old) more ≡ false
  active-split none = sym (fold-append (λ active e. active_after active e.event) false old more) ∙ none

  ahead-split : may_be_ahead (old ++ more) ≡ false → fold (λ ahead e. ahead_after ahead e.event) (may_be_ahead old) more ≡ false
  ahead-split none = sym (fold-append (λ ahead e. ahead_after ahead e.event) false old more) ∙ none

  pub active-before : may_be_active (old ++ more) ≡ false → may_be_active old ≡ false
  active-before none = active-kept more all (may_be_active old) (active-split none)

  pub ahead-before : may_be_ahead (old ++ more) ≡ false → may_be_ahead old ≡ false
  ahead-before none = ahead-kept more all (may_be_ahead old) (ahead-split none)

  pub active-unbegun : may_be_active (old ++ more) ≡ false → list_any (λ e. is_begin e.event) more ≡ false
  active-unbegun none = begins-none more all (may_be_active old) (active-split none)

  pub ahead-unplanned : may_be_ahead (old ++ more) ≡ false → list_any (λ e. is_planned e.event) more ≡ false
  ahead-unplanned none = plans-none more all (may_be_ahead old) (ahead-split none)

inner-some : (event : Event) → MayBeInner event → none_left event ≡ false
inner-some (Stepped done left ended) is = absurd is
inner-some event is = refl

pub inside-some : (entries : List Entry) → All (λ e. MayBeInner e.event) entries → All TellsSome entries
inside-some entries inside = All-weaker (λ e. MayBeInner e.event) TellsSome (λ e is. inner-some e.event is) entries inside

-- What a call leaves of a history that enters losses and one event behind them, whatever the event is, as long as it gives no role and ends no reshape.
use Rattle.std.proofs.Common.{◌≡◌, ◌⊎◌, inl, inr, ℕ, ◌<◌, ◌≤◌, ◌&&◌, ◌||◌, Bool, true, false, Option, List, [], ◌∷◌, ◌++◌, length, refl, sym, ◌∙◌, ap, subst, arith, append_assoc, append-nil}
use Rattle.std.specs.Prelude.{fold}
use Rattle.std.specs.List.{list_any, list_all}
use Rattle.std.specs.Option.{option_map_or}
use Rattle.std.proofs.lemmas.List.Sums.{fold-append}
use Rattle.history_invariant.specs.raid_types_Sectors.{Sector}
use Rattle.history_invariant.specs.raid_types_Shapes.{has_slot}
use Rattle.history_invariant.specs.raid_types_the_Who.{Who}
use Rattle.history_invariant.specs.bank_the_Operation.{Operation}
use Rattle.history_invariant.specs.bank_Given.{Given}
use Rattle.history_invariant.specs.sb_specs_the_Members.{Members}
use Rattle.history_invariant.specs.sb_specs_Reading.{Scope, Reading, list_length, role_count}
use Rattle.history_invariant.specs.stripe_row_Rows.{reading_of, is_missing}
use Rattle.history_invariant.specs.history_the_Entry.{Entry}
use Rattle.history_invariant.specs.history_the_Event.{Event}
use Rattle.history_invariant.specs.history_the_Event_TheVariants.{Lost, SpareLost}
use Rattle.history_invariant.specs.history_the_LostCause_TheVariants.{Fault}
use Rattle.history_invariant.specs.history_Flat.{values_after}
use Rattle.history_invariant.specs.history_Legal.{level_at, level_after, MayBeInner, IsInnerOrLast}
use Rattle.history_invariant.specs.history_Losses.{is_gone_after, loses}
use Rattle.history_invariant.specs.history_OneShape.{is_lost}
use Rattle.history_invariant.specs.history_Plain.{entries_of}
use Rattle.history_invariant.specs.history_World.{World, reading_at, opening_list}
use Rattle.history_invariant.specs.history_append_Losing.{losses_of}
use Rattle.history_invariant.proofs.history_append_CallLaws.{AreLossEvents, losses-are, told-losses, values-losses}
use Rattle.history_invariant.proofs.history_append_StepLaws.{faults-are}
use Rattle.history_invariant.specs.Recorded.{IsHistoryKept, IsLegalCall, entry_of, ends_reshape, gives_some}
use Rattle.history_invariant.specs.Safe.{world_in, is_taken_over, IsFilledRight}
use Rattle.history_invariant.proofs.Growing.{reading-grown, opening-grown, fit-grown, course-before, gone-grown, takes-grown, room-before}
use Rattle.history_invariant.proofs.Tests.{none-before}
use Rattle.history_invariant.proofs.Ledgers.{any-gone}
use Rattle.history_invariant.proofs.Longer.{regains-none}
use Rattle.history_invariant.proofs.Entered.{adds_only, AreAdding, adding-losses, none-losses, gone-was, gone-lost}
use Rattle.history_invariant_laws.specs.Reliable.{IsReliable, AreToldGone}

-- ---- losses

-- what may stand before the last entry of a call may stand before whatever it enters
pub inner-of : (who : Who) (end : ℕ) (event : Event) → MayBeInner event → (events : List Event) → IsInnerOrLast event (entries_of who end events)
inner-of who end event may [] = tt
inner-of who end event may (x ∷ events) = may

-- losses are legal before whatever else a call enters
pub legal-losses : (world : World) (before : List Entry) (who : Who) (end : ℕ) (xs tail : List Event) → AreLossEvents xs → IsLegalCall world (before ++ entries_of who end xs) who end tail
    → IsLegalCall world before who end (xs ++ tail)
legal-losses world before who end [] tail are call = subst (λ (l : List Entry). IsLegalCall world l who end tail) (append-nil before) call
legal-losses world before who end (Lost role Fault ∷ xs) tail are call = (
  tt,
  inner-of who end (Lost role Fault) tt (xs ++ tail),
  legal-losses world (before ++ entry_of who end (Lost role Fault) ∷ []) who end xs tail are
      (subst (λ (l : List Entry). IsLegalCall world l who end tail) (sym (append_assoc before (entry_of who end (Lost role Fault) ∷ []) (entries_of who end xs))) call),
)
legal-losses world before who end (SpareLost slot ∷ xs) tail are call = (
  tt,
  inner-of who end (SpareLost slot) tt (xs ++ tail),
  legal-losses world (before ++ entry_of who end (SpareLost slot) ∷ []) who end xs tail are
      (subst (λ (l : List Entry). IsLegalCall world l who end tail) (sym (append_assoc before (entry_of who end (SpareLost slot) ∷ []) (entries_of who end xs))) call),
)
legal-losses world before who end (event ∷ xs) tail are call = absurd are

-- and none of them ends a reshape
pub ends-losses : (xs tail : List Event) → AreLossEvents xs → list_any ends_reshape tail ≡ false → list_any ends_reshape (xs ++ tail) ≡ false
ends-losses [] tail are none = none
ends-losses (Lost role Fault ∷ xs) tail are none = ends-losses xs tail are none
ends-losses (SpareLost slot ∷ xs) tail are none = ends-losses xs tail are none
ends-losses (event ∷ xs) tail are none = absurd are

-- nor changes the level
pub level-losses : (who : Who) (end n : ℕ) (xs tail : List Event) → AreLossEvents xs → fold (λ level e. level_after level e.event) n (entries_of who end (xs ++ tail)) ≡ fold (λ level e. level_after level e.event) n (entries_of who end tail)
level-losses who end n [] tail are = refl
level-losses who end n (Lost role Fault ∷ xs) tail are = level-losses who end n xs tail are
level-losses who end n (SpareLost slot ∷ xs) tail are = level-losses who end n xs tail are
level-losses who end n (event ∷ xs) tail are = absurd are

pub or-false : (a b : Bool) → a ≡ false → b ≡ false → (a || b) ≡ false
or-false true b e f = absurd (cc)
or-false false b e f = f

pub and-true : (a b : Bool) → a ≡ true → b ≡ true → (a && b) ≡ true
and-true true b e f = f
and-true false b e f = absurd (cc)

-- ---- what stands before the event

-- What stands before the last events of a call only adds to what is told, and tells these roles lost; it leaves the level and gives no role.
pub record AreTelling (early : List Event) (IsTaken : ℕ → Type 0) : Type 0 where
  pub adds : (who : Who) (end : ℕ) (tail : List Event) → AreAdding (entries_of who end tail) → AreAdding (entries_of who end (early ++ tail))
  pub gives : (who : Who) (end : ℕ) (tail : List Event) → list_any (λ e. gives_some e.event) (entries_of who end tail) ≡ false → list_any (λ e. gives_some e.event) (entries_of who end (early ++ tail)) ≡ false
  pub lost : (who : Who) (end : ℕ) (tail : List Event) (role : ℕ) → role < 16 → IsTaken role → is_lost (entries_of who end (early ++ tail)) role ≡ true
  pub level : (who : Who) (end : ℕ) (tail : List Event) (n : ℕ) → fold (λ level e. level_after level e.event) n (entries_of who end (early ++ tail)) ≡ fold (λ level e. level_after level e.event) n (entries_of who end tail)

-- The same, and it ends no reshape.
pub record AreFirst (early : List Event) (IsTaken : ℕ → Type 0) : Type 0 where
  pub adds : (who : Who) (end : ℕ) (tail : List Event) → AreAdding (entries_of who end tail) → AreAdding (entries_of who end (early ++ tail))
  pub gives : (who : Who) (end : ℕ) (tail : List Event) → list_any (λ e. gives_some e.event) (entries_of who end tail) ≡ false → list_any (λ e. gives_some e.event) (entries_of who end (early ++ tail)) ≡ false
  pub lost : (who : Who) (end : ℕ) (tail : List Event) (role : ℕ) → role < 16 → IsTaken role → is_lost (entries_of who end (early ++ tail)) role ≡ true
  pub ends : (tail : List Event) → list_any ends_reshape tail ≡ false → list_any ends_reshape (early ++ tail) ≡ false
  pub level : (who : Who) (end : ℕ) (tail : List Event) (n : ℕ) → fold (λ level e. level_after level e.event) n (entries_of who end (early ++ tail)) ≡ fold (λ level e. level_after level e.event) n (entries_of who end tail)

-- The same, and it leaves the list.
pub record AreEarly (early : List Event) (IsTaken : ℕ → Type 0) : Type 0 where
  pub adds : (who : Who) (end : ℕ) (tail : List Event) → AreAdding (entries_of who end tail) → AreAdding (entries_of who end (early ++ tail))
  pub gives : (who : Who) (end : ℕ) (tail : List Event) → list_any (λ e. gives_some e.event) (entries_of who end tail) ≡ false → list_any (λ e. gives_some e.event) (entries_of who end (early ++ tail)) ≡ false
  pub lost : (who : Who) (end : ℕ) (tail : List Event) (role : ℕ) → role < 16 → IsTaken role → is_lost (entries_of who end (early ++ tail)) role ≡ true
  pub ends : (tail : List Event) → list_any ends_reshape tail ≡ false → list_any ends_reshape (early ++ tail) ≡ false
  pub level : (who : Who) (end : ℕ) (tail : List Event) (n : ℕ) → fold (λ level e. level_after level e.event) n (entries_of who end (early ++ tail)) ≡ fold (λ level e. level_after level e.event) n (entries_of who end tail)
  pub values : (who : Who) (end : ℕ) (tail : List Event) (x : ℕ) (values : List Sector)
      → fold (λ values e. values_after x values e.event) values (entries_of who end (early ++ tail)) ≡ fold (λ values e. values_after x values e.event) values (entries_of who end tail)

pub first-of : {early : List Event} {IsTaken : ℕ → Type 0} → AreEarly early IsTaken → AreFirst early IsTaken
first-of are = record { adds = are.adds; gives = are.gives; lost = are.lost; ends = are.ends; level = are.level }

-- with one event more
pub first-more : (early : List Event) (IsTaken : ℕ → Type 0) (event : Event) → AreFirst early IsTaken → adds_only event ≡ true → gives_some event ≡ false → ends_reshape event ≡ false
    → ((n : ℕ) → level_after n event ≡ n) → AreFirst (early ++ event ∷ []) IsTaken
first-more early IsTaken event are adds gives ends level = record {
  adds = λ who end tail rest. subst (λ (l : List Event). AreAdding (entries_of who end l)) (sym (append_assoc early (event ∷ []) tail))
      (are.adds who end (event ∷ tail) (and-true (adds_only event) (list_all (λ e. adds_only e.event) (entries_of who end tail)) adds rest));
  gives = λ who end tail rest. subst (λ (l : List Event). list_any (λ e. gives_some e.event) (entries_of who end l) ≡ false) (sym (append_assoc early (event ∷ []) tail))
      (are.gives who end (event ∷ tail) (or-false (gives_some event) (list_any (λ e. gives_some e.event) (entries_of who end tail)) gives rest));
  lost = λ who end tail role lt taken. subst (λ (l : List Event). is_lost (entries_of who end l) role ≡ true) (sym (append_assoc early (event ∷ []) tail)) (are.lost who end (event ∷ tail) role lt taken);
  ends = λ tail rest. subst (λ (l : List Event). list_any ends_reshape l ≡ false) (sym (append_assoc early (event ∷ []) tail))
      (are.ends (event ∷ tail) (or-false (ends_reshape event) (list_any ends_reshape tail) ends rest));
  level = λ who end tail n.
      ap (λ (l : List Event). fold (λ level e. level_after level e.event) n (entries_of who end l)) (append_assoc early (event ∷ []) tail)
      ∙ are.level who end (event ∷ tail) n
      ∙ ap (λ (m : ℕ). fold (λ level e. level_after level e.event) m (entries_of who end tail)) (level n);
}

-- nothing is
pub early-none : AreEarly [] (λ role. ⊥)
early-none = record {
  adds = λ who end tail adds. adds;
  gives = λ who end tail none. none;
  lost = λ who end tail role lt taken. absurd taken;
  ends = λ tail none. none;
  level = λ who end tail n. refl;
  values = λ who end tail x values. refl;
}

pub telling-of : {early : List Event} {IsTaken : ℕ → Type 0} → AreFirst early IsTaken → AreTelling early IsTaken
telling-of are = record { adds = are.adds; gives = are.gives; lost = are.lost; level = are.level }

-- one of these roles
abbrev pub IsAmong : ℕ → ℕ → Type 0
IsAmong roles role = has_slot roles role ≡ true

pub early-losses : (roles spares : ℕ) → AreEarly (losses_of roles spares) (IsAmong roles)
early-losses roles spares = record {
  adds = λ who end tail adds. adding-losses who end (losses_of roles spares) tail (faults-are (losses_of roles spares) (losses-are roles spares)) adds;
  gives = λ who end tail none. none-losses who end (losses_of roles spares) tail (faults-are (losses_of roles spares) (losses-are roles spares)) none;
  lost = λ who end tail role lt has. told-losses role roles spares who end tail lt has;
  ends = λ tail none. ends-losses (losses_of roles spares) tail (losses-are roles spares) none;
  level = λ who end tail n. level-losses who end n (losses_of roles spares) tail (losses-are roles spares);
  values = λ who end tail x values. values-losses who end (losses_of roles spares) tail (losses-are roles spares) x values;
}

-- ---- the call

-- what is missing then was missing before, or is told lost
abbrev pub AreLostOrMissing : Members → Members → (ℕ → Type 0) → Type 0
AreLostOrMissing old new IsTaken = (role : ℕ) → role < role_count new.newest → is_missing (reading_of new) role ≡ true → ((role < role_count old.newest) × (is_missing (reading_of old) role ≡ true)) ⊎ IsTaken role

-- Of the entries of such a call: those before its last only add, and no entry gives a role; what is missing is gone by them, and behind the last too; the
-- level stays; what was filled in before was right, if it is right behind it; and the opening's list is what it was.
pub record IsBehind (world later : World) (entries : List Entry) (new : Members) (who : Who) (end : ℕ) (early tail : List Event) : Type 0 where
  pub adds_more : AreAdding (entries_of who end early)
  pub gives_more : list_any (λ e. gives_some e.event) (entries_of who end early) ≡ false
  pub gives_all : list_any (λ e. gives_some e.event) (entries_of who end (early ++ tail)) ≡ false
  pub counts_more : IsReliable later (entries ++ entries_of who end (early ++ tail)) → (role : ℕ) → role < role_count new.newest → is_missing (reading_of new) role ≡ true → (is_gone_after later entries role || list_any (loses later role) (entries_of who end early)) ≡ true
  pub counts_all : IsReliable later (entries ++ entries_of who end (early ++ tail)) → (role : ℕ) → role < role_count new.newest → is_missing (reading_of new) role ≡ true
      → (is_gone_after later entries role || list_any (loses later role) (entries_of who end (early ++ tail))) ≡ true
  pub gone_more : IsReliable later (entries ++ entries_of who end (early ++ tail)) → AreToldGone later (entries ++ entries_of who end early) new
  pub gone_all : IsReliable later (entries ++ entries_of who end (early ++ tail)) → AreToldGone later (entries ++ entries_of who end (early ++ tail)) new
  pub level_more : level_at later (entries ++ entries_of who end early) ≡ level_at world entries
  pub level_all : level_at later (entries ++ entries_of who end (early ++ tail)) ≡ level_at world entries
  pub fills : IsFilledRight later (entries ++ entries_of who end (early ++ tail)) → IsFilledRight world entries
  pub right : IsReliable later (entries ++ entries_of who end (early ++ tail)) → IsReliable world entries
  pub opened : opening_list later ≡ opening_list world

module _ (given : Given) (tape : List Operation) (scope : Scope) (first : ℕ) (entries : List Entry) (old new : Members) (who : Who) (early : List Event) (IsTaken : ℕ → Type 0) (tail : List Event) (ops : List Operation)
    (are : AreTelling early IsTaken) (gives : list_any (λ e. gives_some e.event) (entries_of who (length (tape ++ ops)) tail) ≡ false)
    (level : (n : ℕ) → fold (λ level e. level_after level e.event) n (entries_of who (length (tape ++ ops)) tail) ≡ n) (few : role_count new.newest ≤ 16) (missing : AreLostOrMissing old new IsTaken)
    (gone : IsReliable (world_in given tape scope first) entries → AreToldGone (world_in given tape scope first) entries old)
    (recorded : IsHistoryKept (IsReliable (world_in given tape scope first) entries) (world_in given tape scope first) (list_length old.newest) entries) where
  abbrev world : World
  world = world_in given tape scope first

  abbrev later : World
  later = world_in given (tape ++ ops) scope first

  abbrev end : ℕ
  end = length (tape ++ ops)

  abbrev more : List Entry
  more = entries_of who (length (tape ++ ops)) (early)

  abbrev added : List Entry
  added = entries_of who (length (tape ++ ops)) (early ++ tail)

  all-but : (P : List Event → Type 0) → P (early ++ []) → P early
  all-but P holds = subst P (append-nil early) holds

  gives-more : list_any (λ e. gives_some e.event) more ≡ false
  gives-more = all-but (λ (l : List Event). list_any (λ e. gives_some e.event) (entries_of who end l) ≡ false) (are.gives who end [] refl)

  gives-all : list_any (λ e. gives_some e.event) added ≡ false
  gives-all = are.gives who end tail gives

  fills-before : IsFilledRight later (entries ++ added) → IsFilledRight world entries
  fills-before (inl none) =
      inl (
        λ role. sym (takes-grown world ops entries role recorded.ends) ∙ none-before (loses later role) entries added (none.0 role),
        course-before world ops recorded.begun none.1,
        none-before (λ e. is_taken_over e.event) entries added none.2,
      )
  fills-before (inr fit) = inr (subst (λ (p : Type 0). p) (fit-grown world ops recorded.begun) fit)

  right-before : IsReliable later (entries ++ added) → IsReliable world entries
  right-before right = record { fills = fills-before right.fills; room = room-before world ops recorded.begun right.room }

  gone-counts : IsReliable world entries → (ys : List Entry) → ((role : ℕ) → role < 16 → IsTaken role → is_lost ys role ≡ true) → (role : ℕ) → role < role_count new.newest → is_missing (reading_of new) role ≡ true
      → (is_gone_after later entries role || list_any (loses later role) ys) ≡ true
  gone-counts fills ys lost role lt miss = elim (missing role lt miss) [
    | inl was ↦ gone-was later entries ys role (gone-grown world ops entries role recorded.ends ∙ gone fills role was.0 was.1)
    | inr has ↦ gone-lost later entries ys role (lost role (omega (arith, lt, few)) has)
  ]

  counts-more : IsReliable later (entries ++ added) → (role : ℕ) → role < role_count new.newest → is_missing (reading_of new) role ≡ true → (is_gone_after later entries role || list_any (loses later role) more) ≡ true
  counts-more fills = gone-counts (right-before fills) more (λ role lt has. all-but (λ (l : List Event). is_lost (entries_of who end l) role ≡ true) (are.lost who end [] role lt has))

  counts-all : IsReliable later (entries ++ added) → (role : ℕ) → role < role_count new.newest → is_missing (reading_of new) role ≡ true → (is_gone_after later entries role || list_any (loses later role) added) ≡ true
  counts-all fills = gone-counts (right-before fills) added (λ role lt has. are.lost who end tail role lt has)

  level-from : (xs : List Event) → fold (λ level e. level_after level e.event) (level_at world entries) (entries_of who end xs) ≡ level_at world entries
      → level_at later (entries ++ entries_of who end xs) ≡ level_at world entries
  level-from xs same =
      ap (λ (found : Option Reading). fold (λ level e. level_after level e.event) (option_map_or (λ r. r.newest.level) found 5) (entries ++ entries_of who end xs)) (reading-grown world ops first recorded.begun)
      ∙ fold-append (λ level e. level_after level e.event) (option_map_or (λ r. r.newest.level) (reading_at world world.first) 5) entries (entries_of who end xs)
      ∙ same

  pub is-behind : IsBehind (world_in given tape scope first) (world_in given (tape ++ ops) scope first) entries new who (length (tape ++ ops)) early tail
  is-behind = record {
    adds_more = all-but (λ (l : List Event). AreAdding (entries_of who end l)) (are.adds who end [] refl);
    gives_more = gives-more;
    gives_all = gives-all;
    counts_more = counts-more;
    counts_all = counts-all;
    gone_more = λ fills role lt miss. any-gone later role entries more (regains-none later role more gives-more) (counts-more fills role lt miss);
    gone_all = λ fills role lt miss. any-gone later role entries added (regains-none later role added gives-all) (counts-all fills role lt miss);
    level_more = level-from early (all-but (λ (l : List Event). fold (λ level e. level_after level e.event) (level_at world entries) (entries_of who end l) ≡ level_at world entries) (are.level who end [] (level_at world entries)));
    level_all = level-from (early ++ tail) (are.level who end tail (level_at world entries) ∙ level (level_at world entries));
    fills = fills-before;
    right = right-before;
    opened = opening-grown world ops recorded.begun;
  }

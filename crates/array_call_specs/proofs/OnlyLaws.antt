-- What is told gone is missing, and what is told to be a spare is one, after a call.
use Rattle.std.proofs.Common.{◌≡◌, ◌⊎◌, inl, inr, ℕ, zero, suc, ◌<◌, ◌==◌, ◌&&◌, ◌||◌, Bool, true, false, not, cond, List, [], ◌∷◌, ◌++◌, refl, sym, ◌∙◌, ap, subst, arith}
use Rattle.std.proofs.lemmas.Bool.{cases_lt}
use Rattle.std.proofs.lemmas.Bool.Decides.{nat_tests}
use Rattle.std.proofs.lemmas.List.Elements.{All-nil, All-cons, All-head, All-tail}
use Rattle.std.proofs.lemmas.List.Sums.{fold-append}
use Rattle.std.specs.List.{list_any, All}
use Rattle.std.specs.Prelude.{fold, IsTrue}
use Rattle.raid_types.specs.Shapes.{has_slot}
use Rattle.raid_types.specs.declared.answers.Who.{Who}
use Rattle.history_append.specs.bank_Given.{Given}
use Rattle.history_append.specs.sb_specs_the_Members.{Members}
use Rattle.history_append.specs.sb_specs_Reads.{has_spare}
use Rattle.history_append.specs.stripe_row_Rows.{reading_of, is_missing}
use Rattle.history_append.specs.history_the_Entry.{Entry}
use Rattle.history_append.specs.history_the_Event.{Event}
use Rattle.history_append.specs.history_the_Event_TheVariants.{Lost, SpareLost, Step, Added}
use Rattle.history_append.specs.history_the_LostCause_TheVariants.{Fault}
use Rattle.history_append.specs.history_the_StepKind_TheVariants.{RebuildTaken}
use Rattle.history_append.specs.history_Plain.{loses_role, entries_of}
use Rattle.history_append.specs.history_OneShape.{gives_role, is_lost, is_gone_now, is_spare_after, is_spare_now, adds_slot}
use Rattle.history_append.specs.history_Sound.{LosesNoRole}
use Rattle.history_append.proofs.history_OneShapeGone.{is_gone-both, never-gone}
use Rattle.history_append.specs.Losing.{role_losses, spare_loss, spare_losses, losses_of}
use Rattle.history_append.proofs.CallLaws.{AreLossEvents, losses-are, all-losses}
use Rattle.history_append.proofs.LosingLaws.{entries-both}
use Rattle.history_append.specs.array_members_Moving.{IsMoved}
use Rattle.history_append.specs.array_members_Lacking.{AreLostSince}
use Rattle.history_append.specs.array_members_Rebuilding.{AreSparesFree, MayHold}
use Rattle.history_append.proofs.array_members_HeldRows.{missing-moved, vacant-missing}
use Rattle.array_call_specs.specs.Kept.{AreOnlyTold}

-- whether the slot is told to be a spare, behind these entries
abbrev pub spare_behind : ℕ → Bool → List Entry → Bool
spare_behind slot spare entries = fold (λ spare e. is_spare_after slot spare e.event) spare entries

-- these entries tell no slot to be a spare that isn't one of these
abbrev pub MakeSpares : List ℕ → List Entry → Type 0
MakeSpares spares added = (slot : ℕ) (spare : Bool) → spare_behind slot spare added ≡ true → (spare ≡ true) ⊎ (has_spare spares slot ≡ true)

pub either : (a b : Bool) → (a || b) ≡ true → (a ≡ true) ⊎ (b ≡ true)
either true b is = inl refl
either false b is = inr is

first-of : (a b : Bool) → (a && b) ≡ true → a ≡ true
first-of true b is = refl
first-of false b is = absurd (cc)

-- ---- roles

-- what a list has that passes has the fact
any-of : {Q : Type 0} (p : Entry → Bool) (xs : List Entry) → All (λ e. p e ≡ true → Q) xs → list_any p xs ≡ true → Q
any-of p [] all is = absurd (cc)
any-of {Q = Q} p (x ∷ xs) all is = elim (either (p x) (list_any p xs) is) [
  | inl here ↦ All-head (λ e. p e ≡ true → Q) x xs all here
  | inr later ↦ any-of p xs (All-tail (λ e. p e ≡ true → Q) x xs all) later
]

none-of : {Q : Type 0} (p : Entry → Bool) (xs : List Entry) → list_any p xs ≡ false → All (λ e. p e ≡ true → Q) xs
none-of {Q = Q} p [] none = All-nil (λ e. p e ≡ true → Q)
none-of {Q = Q} p (x ∷ xs) none = All-cons (λ e. p e ≡ true → Q) x xs (λ is. absurd (let clash = sym (here (p x) (list_any p xs) is) ∙ none in cc)) (none-of p xs (rest (p x) (list_any p xs) none))
  where
    here : (a b : Bool) → a ≡ true → (a || b) ≡ true
    here true b is = refl
    here false b is = absurd (cc)

    rest : (a b : Bool) → (a || b) ≡ false → b ≡ false
    rest false b is = is
    rest true b is = absurd (cc)

-- a role that a call tells lost by a fault is among these
pub lost-among : (role roles spares : ℕ) (who : Who) (end : ℕ) (tail : List Event) → is_lost (entries_of who end tail) role ≡ false
    → is_lost (entries_of who end (losses_of roles spares ++ tail)) role ≡ true → has_slot roles role ≡ true
lost-among role roles spares who end tail none is =
    any-of (λ e. loses_role role e.event) (entries_of who end (losses_of roles spares ++ tail))
    (all-losses (λ event. loses_role role event ≡ true → has_slot roles role ≡ true) who end roles spares tail
    (λ lost has same. subst (λ (r : ℕ). has_slot roles r ≡ true) (equal lost role same) has) (λ slot has same. absurd (cc)) (none-of (λ e. loses_role role e.event) (entries_of who end tail) none)) is
  where
    equal : (a b : ℕ) → (a == b) ≡ true → a ≡ b
    equal a b e = grind (arith, nat_tests, e)

-- a role that is gone behind more entries was gone before them, or they tell it lost
pub gone-or : (role : ℕ) (entries added : List Entry) → is_gone_now (entries ++ added) role ≡ true → (is_gone_now entries role ≡ true) ⊎ (is_lost added role ≡ true)
gone-or role entries added gone = elim (either (is_gone_now entries role && not (list_any (λ e. gives_role role e.event) added)) (is_gone_now added role) (sym (is_gone-both entries added role) ∙ gone)) [
  | inl was ↦ inl (first-of (is_gone_now entries role) (not (list_any (λ e. gives_role role e.event) added)) was)
  | inr now ↦ inr (by (is_lost added role) refl now)
]
  where
    by : (b : Bool) → is_lost added role ≡ b → is_gone_now added role ≡ true → is_lost added role ≡ true
    by true is now = is
    by false is now = absurd (let clash = sym now ∙ never-gone added role is in cc)

-- Each role that is gone behind the losses of a call is missing, where those that it lost are.
pub gone-behind-losses : (old new : Members) (entries : List Entry) (who : Who) (end roles spares : ℕ) (tail : List Event)
    → ((role : ℕ) → is_missing (reading_of old) role ≡ true → is_missing (reading_of new) role ≡ true) → ((role : ℕ) → has_slot roles role ≡ true → is_missing (reading_of new) role ≡ true)
    → LosesNoRole (entries_of who end tail) → AreOnlyTold old entries
    → (role : ℕ) → is_gone_now (entries ++ entries_of who end (losses_of roles spares ++ tail)) role ≡ true → is_missing (reading_of new) role ≡ true
gone-behind-losses old new entries who end roles spares tail still lost none was role gone = elim (gone-or role entries (entries_of who end (losses_of roles spares ++ tail)) gone) [
  | inl before ↦ still role (was.gone role before)
  | inr now ↦ lost role (lost-among role roles spares who end tail (none role) now)
]

-- ---- spares

pub spare-both : (slot : ℕ) (xs ys : List Entry) (spare : Bool) → spare_behind slot spare (xs ++ ys) ≡ spare_behind slot (spare_behind slot spare xs) ys
spare-both slot xs ys spare = fold-append (λ spare e. is_spare_after slot spare e.event) spare xs ys

-- losses make no spare
fewer-losses : (slot : ℕ) (who : Who) (end : ℕ) (xs : List Event) → AreLossEvents xs → (spare : Bool) → spare_behind slot spare (entries_of who end xs) ≡ true → spare ≡ true
fewer-losses slot who end [] are spare is = is
fewer-losses slot who end (Lost role Fault ∷ xs) are spare is = fewer-losses slot who end xs are spare is
fewer-losses slot who end (SpareLost lost ∷ xs) are spare is = first-of spare (not (lost == slot)) (fewer-losses slot who end xs are (spare && not (lost == slot)) is)
fewer-losses slot who end (event ∷ xs) are spare is = absurd are

-- one that is lost isn't told to be one any more
spare-lost : (slot spares n : ℕ) (who : Who) (end : ℕ) → slot < n → has_slot spares slot ≡ true → (spare : Bool) → spare_behind slot spare (entries_of who end (spare_losses spares n)) ≡ false
unfolding spare_losses
spare-lost slot spares zero who end lt has spare = absurd (omega (arith, lt))
spare-lost slot spares (suc n) who end lt has spare =
    ap (λ (l : List Entry). spare_behind slot spare l) (entries-both who end (spare_losses spares n) (spare_loss spares n))
    ∙ spare-both slot (entries_of who end (spare_losses spares n)) (entries_of who end (spare_loss spares n)) spare
    ∙ elim (cases_lt slot n) [
      | inl below ↦ ap (λ (b : Bool). spare_behind slot b (entries_of who end (spare_loss spares n))) (spare-lost slot spares n who end below has spare) ∙ none (has_slot spares n)
      | inr above ↦
          let same : slot ≡ n = omega (arith, lt, above) in
          here same (spare_behind slot spare (entries_of who end (spare_losses spares n)))
    ]
  where
    none : (b : Bool) → spare_behind slot false (entries_of who end (cond b (SpareLost n ∷ []) [])) ≡ false
    none true = refl
    none false = refl

    itself : (a b : ℕ) (was : Bool) → a ≡ b → (was && not (b == a)) ≡ false
    itself a b was e = grind (arith, nat_tests, e)

    here : slot ≡ n → (was : Bool) → spare_behind slot was (entries_of who end (spare_loss spares n)) ≡ false
    here same was =
        ap (λ (b : Bool). spare_behind slot was (entries_of who end (cond b (SpareLost n ∷ []) []))) (ap (has_slot spares) (sym same) ∙ has)
        ∙ itself slot n was same

-- Each slot that is told to be a spare behind the losses of a call is one, where each that was is one still or is among those that it lost.
pub spares-behind-losses : (old new : List ℕ) (entries : List Entry) (who : Who) (end roles spares : ℕ) (tail : List Event)
    → ((slot : ℕ) → has_spare old slot ≡ true → slot < 32) → ((slot : ℕ) → has_spare old slot ≡ true → (has_spare new slot ≡ true) ⊎ (has_slot spares slot ≡ true))
    → MakeSpares new (entries_of who end tail) → ((slot : ℕ) → is_spare_now entries slot ≡ true → has_spare old slot ≡ true)
    → (slot : ℕ) → is_spare_now (entries ++ entries_of who end (losses_of roles spares ++ tail)) slot ≡ true → has_spare new slot ≡ true
spares-behind-losses old new entries who end roles spares tail small told makes was slot is = elim (makes slot behind (sym split ∙ is)) [
  | inl lasts ↦
      let before : is_spare_now entries slot ≡ true = fewer-losses slot who end (losses_of roles spares) (losses-are roles spares) (is_spare_now entries slot) lasts in
      let had = was slot before in
      elim (told slot had) [
        | inl still ↦ still
        | inr lost ↦ absurd (let clash = sym lasts ∙ gone (small slot had) lost in cc)
      ]
  | inr made ↦ made
]
  where
    behind : Bool
    behind = spare_behind slot (is_spare_now entries slot) (entries_of who end (losses_of roles spares))

    split : is_spare_now (entries ++ entries_of who end (losses_of roles spares ++ tail)) slot ≡ spare_behind slot behind (entries_of who end tail)
    split =
        spare-both slot entries (entries_of who end (losses_of roles spares ++ tail)) false
        ∙ ap (λ (l : List Entry). spare_behind slot (is_spare_now entries slot) l) (entries-both who end (losses_of roles spares) tail)
        ∙ spare-both slot (entries_of who end (losses_of roles spares)) (entries_of who end tail) (is_spare_now entries slot)

    gone : slot < 32 → has_slot spares slot ≡ true → behind ≡ false
    gone lt has =
        ap (λ (l : List Entry). spare_behind slot (is_spare_now entries slot) l) (entries-both who end (role_losses roles 16) (spare_losses spares 32))
        ∙ spare-both slot (entries_of who end (role_losses roles 16)) (entries_of who end (spare_losses spares 32)) (is_spare_now entries slot)
        ∙ spare-lost slot spares 32 who end lt has (spare_behind slot (is_spare_now entries slot) (entries_of who end (role_losses roles 16)))

-- none is told to be one behind a step that gives a role to a spare
pub taken-spares : (entries : List Entry) (who : Who) (end : ℕ) (xs : List Event) (steps slot : ℕ) → is_spare_now (entries ++ entries_of who end (xs ++ Step RebuildTaken steps ∷ [])) slot ≡ false
taken-spares entries who end xs steps slot =
    spare-both slot entries (entries_of who end (xs ++ Step RebuildTaken steps ∷ [])) false
    ∙ ap (λ (l : List Entry). spare_behind slot (is_spare_now entries slot) l) (entries-both who end xs (Step RebuildTaken steps ∷ []))
    ∙ spare-both slot (entries_of who end xs) (entries_of who end (Step RebuildTaken steps ∷ [])) (is_spare_now entries slot)

-- an added slot is told to be one
pub added-makes : (who : Who) (end added : ℕ) (spares : List ℕ) → has_spare spares added ≡ true → MakeSpares spares (entries_of who end (Added added ∷ []))
added-makes who end added spares has slot spare is = elim (either (added == slot) spare is) [
  | inl same ↦ inr (subst (λ (s : ℕ). has_spare spares s ≡ true) (equal added slot same) has)
  | inr was ↦ inl was
]
  where
    equal : (a b : ℕ) → (a == b) ≡ true → a ≡ b
    equal a b e = grind (arith, nat_tests, e)

-- ---- both

only-same : (members : Members) (entries added : List Entry) → LosesNoRole added → MakeSpares members.spares added → AreOnlyTold members entries → AreOnlyTold members (entries ++ added)
only-same members entries added none makes was = record {
  gone = λ role gone. elim (gone-or role entries added gone) [
    | inl before ↦ was.gone role before
    | inr now ↦ absurd (let clash = sym now ∙ none role in cc)
  ];
  spares = λ slot is. elim (makes slot (is_spare_now entries slot) (sym (spare-both slot entries added false) ∙ is)) [
    | inl before ↦ was.spares slot before
    | inr has ↦ has
  ];
}

-- What a call tells is so, and each slot that holds a role or is a spare now did so before, or it tells that it was added.
pub record TellsOnly (old new : Members) (entries added : List Entry) : Type 0 where
  pub only : AreOnlyTold new (entries ++ added)
  pub held : (role slot : ℕ) → MayHold new role slot → ((r : ℕ) × MayHold old r slot) ⊎ IsTrue (list_any (λ e. adds_slot slot e.event) added)

-- the same members, or some of them
same-held : (m : Members) (added : List Entry) (role slot : ℕ) → MayHold m role slot → ((r : ℕ) × MayHold m r slot) ⊎ IsTrue (list_any (λ e. adds_slot slot e.event) added)
same-held m added role slot may = inl (role, may)

pub moved-held : {given : Given} {old new : Members} (added : List Entry) → IsMoved given old new → (role slot : ℕ) → MayHold new role slot → ((r : ℕ) × MayHold old r slot) ⊎ IsTrue (list_any (λ e. adds_slot slot e.event) added)
moved-held added moved role slot (inl held) = inl (role, inl (moved.held role slot held))
moved-held added moved role slot (inr spare) = inl (role, inr (moved.fewer slot spare))

-- behind entries that lose no role and make no other spare
pub only-more : (members : Members) (entries added : List Entry) → LosesNoRole added → MakeSpares members.spares added → AreOnlyTold members entries → TellsOnly members members entries added
only-more members entries added none makes was = record { only = only-same members entries added none makes was; held = same-held members added }

-- behind the losses of a call that leaves the members but for those
pub only-since : (given : Given) (old new : Members) (entries : List Entry) (who : Who) (end roles spares : ℕ) (tail : List Event) (before after : ℕ → ℕ) → IsMoved given old new → AreSparesFree given old
    → AreLostSince old new roles spares before after → LosesNoRole (entries_of who end tail) → MakeSpares new.spares (entries_of who end tail) → AreOnlyTold old entries
    → TellsOnly old new entries (entries_of who end (losses_of roles spares ++ tail))
only-since given old new entries who end roles spares tail before after moved free since none makes was = record {
  only = record {
    gone = gone-behind-losses old new entries who end roles spares tail (missing-moved moved) (λ role has. vacant-missing (reading_of new) role (since.gone role has)) none was;
    spares = spares-behind-losses old.spares new.spares entries who end roles spares tail (λ slot has. (free slot has).room.small) since.told makes was.spares;
  };
  held = moved-held (entries_of who end (losses_of roles spares ++ tail)) moved;
}

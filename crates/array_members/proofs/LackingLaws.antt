-- Losses that add up over the parts of a call, and what a mark leaves of holders' sectors.
use Rattle.std.proofs.Common.{◌≡◌, ◌⊎◌, inl, inr, ℕ, ◌<◌, ◌&&◌, ◌||◌, nat_lt, bit_or, Bool, true, false, not, cond, List, [], ◌∷◌, get_or, Option, Some, None, is_some, refl, sym, ◌∙◌, ap, ap₂, subst, arith}
use Rattle.std.proofs.lemmas.Bool.{cases_lt}
use Rattle.std.proofs.lemmas.Bool.Decides.{nat_tests}
use Rattle.std.specs.Option.{option_map_or}
use Rattle.crash_role_laws.specs.raid_types_Sectors.{Sector}
use Rattle.crash_role_laws.specs.raid_types_Shapes.{has_slot, tolerance}
use Rattle.crash_role_laws.specs.raid_types_the_Shape.{Shape}
use Rattle.crash_role_laws.specs.raid_types_the_Role.{Role}
use Rattle.crash_role_laws.specs.raid_types_the_Role_TheVariants.{Missing}
use Rattle.crash_role_laws.specs.bank_Given.{Given, IsFaulted, NeverFalls}
use Rattle.crash_role_laws.specs.bank_the_Operation.{Operation}
use Rattle.crash_role_laws.specs.bank_Tape.{disk}
use Rattle.crash_role_laws.proofs.bank_Causes.{faulted_longer}
use Rattle.crash_role_laws.specs.sb_specs_the_Members.{Members}
use Rattle.crash_role_laws.specs.sb_specs_Updating.{IsUpdate}
use Rattle.crash_role_laws.specs.sb_specs_Reading.{Reading, shape_of, role_state, holder, final_shape, is_reshaping, role_count}
use Rattle.crash_role_laws.specs.sb_specs_Reads.{has_spare}
use Rattle.crash_role_laws.proofs.sb_specs_SlotSets.{none_there}
use Rattle.crash_role_laws.specs.stripe_row_Rows.{reading_of, present, is_missing, role_without}
use Rattle.array_members.specs.Placed.{is_unassigned, AreStillHeld, AreWhole, IsPlaced, AreLost, AreLess, IsInForce}
use Rattle.array_members.specs.Flushing.{AreMembersFlushed}
use Rattle.array_members.specs.Moving.{IsMoved, AreFailed}
use Rattle.crash_role_laws.proofs.stripe_row_Losses.{state_kept}
use Rattle.array_members.proofs.HeldRows.{missing-before, vacant-missing}
use Rattle.array_members.proofs.MemberLaws.{less-without}
use Rattle.crash_role_laws.proofs.crash_safety_laws_Without.{in-both, state-without}
use Rattle.array_members.specs.Lacking.{HaveFailedSince, AreLostSince, AreHoldersFlushed, AreTooMany, DoesWithout, lacking, refused_by, too_many, LacksTooMany}
use Rattle.std.specs.Prelude.{MatchOption, ⊤, Result, Ok, Err}
use Rattle.crash_role_laws.specs.raid_types_the_Refusal.{Refusal}
use Rattle.crash_role_laws.specs.stripe_list_the_Unavailable.{Unavailable}
use Rattle.crash_role_laws.specs.stripe_list_the_Unavailable_TheVariants.{TooManyMissing, NotResynced}
use Rattle.crash_role_laws.specs.stripe_list_Calls.{IsAnswer}
use Rattle.array_members.proofs.MovedLaws.{not-whole}
use Rattle.array_members.proofs.MarkedLaws.{others-updated, single-kept}
use Rattle.crash_role_laws.specs.crash_views_Regions.{DoWithout}
use Rattle.array_members.proofs.Fit.{count-alike}
use Rattle.crash_role_laws.proofs.crash_views_Stands.{final-still}

-- ---- the slots that failed

pub holder-without : (lost slot : ℕ) (state : Role) → holder state ≡ Some slot → has_slot lost slot ≡ false → holder (role_without lost state) ≡ Some slot
holder-without lost slot state held kept =
    ap (λ (h : Option ℕ). holder (cond (option_map_or (has_slot lost) h false) Missing state)) held ∙ ap (λ (b : Bool). holder (cond b Missing state)) kept ∙ held

-- each spare is one still, or is among these
abbrev pub ArePassedOn : Members → Members → ℕ → Type 0
ArePassedOn old new spares = (slot : ℕ) → has_spare old.spares slot ≡ true → (has_spare new.spares slot ≡ true) ⊎ (has_slot spares slot ≡ true)

-- each of these slots was a spare
abbrev pub WereSpares : Members → ℕ → Type 0
WereSpares old spares = (slot : ℕ) → has_slot spares slot ≡ true → has_spare old.spares slot ≡ true

-- no slot has become a spare
abbrev pub AreNoMore : Members → Members → Type 0
AreNoMore old new = (slot : ℕ) → has_spare new.spares slot ≡ true → has_spare old.spares slot ≡ true

-- members that lost these slots, where each that held a role has failed
pub since-less : (lost spares : ℕ) (old new : Members) (before after : ℕ → ℕ) → AreLess lost old new
    → ((role slot : ℕ) → holder (role_state (reading_of old) role) ≡ Some slot → has_slot lost slot ≡ true → IsFaulted slot before after)
    → ((slot : ℕ) → has_slot spares slot ≡ true → IsFaulted slot before after) → WereSpares old spares → AreNoMore old new → ArePassedOn old new spares
    → HaveFailedSince old new spares before after
since-less lost spares old new before after less failed spares_failed were fewer told = record {
  roles = λ role slot held. by role slot held (has_slot lost slot) refl;
  spares_are = spares_failed;
  were = were;
  fewer = fewer;
  told = told;
}
  where
    state-is : (role : ℕ) → role_state (reading_of new) role ≡ role_without lost (role_state (reading_of old) role)
    state-is role = ap (λ (l : List Role). get_or l role Missing) less.roles ∙ state-without lost old.roles role

    by : (role slot : ℕ) → holder (role_state (reading_of old) role) ≡ Some slot → (b : Bool) → has_slot lost slot ≡ b
        → (holder (role_state (reading_of new) role) ≡ Some slot) ⊎ IsFaulted slot before after
    by role slot held true gone = inr (failed role slot held gone)
    by role slot held false kept = inl (ap holder (state-is role) ∙ holder-without lost slot (role_state (reading_of old) role) held kept)

pub since-failed : (old new : Members) (spares : ℕ) (before after : ℕ → ℕ) → AreFailed old new spares before after → WereSpares old spares → AreNoMore old new → ArePassedOn old new spares
    → HaveFailedSince old new spares before after
since-failed old new spares before after failed were fewer told = since-less new.lost spares old new before after failed.less failed.held failed.failed were fewer told

-- a set of slots is made of these two
pub record IsUnion (u s t : ℕ) : Type 0 where
  pub parts : (slot : ℕ) → has_slot u slot ≡ true → (has_slot s slot ≡ true) ⊎ (has_slot t slot ≡ true)
  pub first : (slot : ℕ) → has_slot s slot ≡ true → has_slot u slot ≡ true
  pub second : (slot : ℕ) → has_slot t slot ≡ true → has_slot u slot ≡ true

pub since-then : (a b c : Members) (s t u : ℕ) (f g h : ℕ → ℕ) → NeverFalls f g → NeverFalls g h → HaveFailedSince a b s f g → HaveFailedSince b c t g h
    → IsUnion u s t → HaveFailedSince a c u f h
since-then a b c s t u f g h early late one two either = record {
  roles = λ role slot held. by role slot (one.roles role slot held);
  spares_are = λ slot has. spare slot (either.parts slot has);
  were = λ slot has. elim (either.parts slot has) [ inl early ↦ one.were slot early | inr late ↦ one.fewer slot (two.were slot late) ];
  fewer = λ slot is. one.fewer slot (two.fewer slot is);
  told = λ slot has. elim (one.told slot has) [
    | inl still ↦ elim (two.told slot still) [ inl last ↦ inl last | inr late ↦ inr (either.second slot late) ]
    | inr early ↦ inr (either.first slot early)
  ];
}
  where
    first : (slot : ℕ) → IsFaulted slot f g → IsFaulted slot f h
    first slot did = faulted_longer slot f f g h (omega arith) (late slot) (early slot) did

    second : (slot : ℕ) → IsFaulted slot g h → IsFaulted slot f h
    second slot did = faulted_longer slot f g h h (early slot) (omega arith) (late slot) did

    by : (role slot : ℕ) → (holder (role_state (reading_of b) role) ≡ Some slot) ⊎ IsFaulted slot f g → (holder (role_state (reading_of c) role) ≡ Some slot) ⊎ IsFaulted slot f h
    by role slot (inr did) = inr (first slot did)
    by role slot (inl held) = again role slot (two.roles role slot held)
      where
        again : (role slot : ℕ) → (holder (role_state (reading_of c) role) ≡ Some slot) ⊎ IsFaulted slot g h → (holder (role_state (reading_of c) role) ≡ Some slot) ⊎ IsFaulted slot f h
        again role slot (inl held) = inl held
        again role slot (inr did) = inr (second slot did)

    spare : (slot : ℕ) → (has_slot s slot ≡ true) ⊎ (has_slot t slot ≡ true) → IsFaulted slot f h
    spare slot (inl has) = first slot (one.spares_are slot has)
    spare slot (inr has) = second slot (two.spares_are slot has)

-- ---- the roles that have lost their slots since

-- exactly the vacant roles are in the set
abbrev pub AreVacant : Members → ℕ → ℕ → Type 0
AreVacant m disks roles = (role : ℕ) → has_slot roles role ≡ (nat_lt role disks && is_unassigned (reading_of m) role)

-- these roles are vacant, and weren't before
abbrev pub AreNewlyVacant : Members → ℕ → ℕ → ℕ → Type 0
AreNewlyVacant m disks before roles = (role : ℕ) → has_slot roles role ≡ ((nat_lt role disks && is_unassigned (reading_of m) role) && not (has_slot before role))

pub lost-since : (given : Given) (old new : Members) (disks was roles spares : ℕ) (before after : ℕ → ℕ) → IsPlaced given old → IsMoved given old new → HaveFailedSince old new spares before after
    → disks ≡ role_count old.newest → AreVacant old disks was → AreNewlyVacant new disks was roles → AreLostSince old new roles spares before after
lost-since given old new disks was roles spares before after placed moved failed same vacant newly = record {
  vacant = λ role lt is. old-or role (is_unassigned (reading_of old) role) refl (subst (λ (n : ℕ). role < n) (sym same) (subst (λ (n : ℕ). role < n) (count-alike old.newest new.newest moved.reshape moved.shape moved.size) lt)) is;
  gone = λ role has. (parts (nat_lt role disks) (is_unassigned (reading_of new) role) (has_slot was role) (sym (newly role) ∙ has)).1;
  held = λ role has. at role (parts (nat_lt role disks) (is_unassigned (reading_of new) role) (has_slot was role) (sym (newly role) ∙ has)) (holder (role_state (reading_of old) role)) refl;
  failed = failed.spares_are;
  were = failed.were;
  told = failed.told;
}
  where
    lt-is : (a b : ℕ) → a < b → nat_lt a b ≡ true
    lt-is a b lt = grind (arith, nat_tests, lt)

    parts : (a b c : Bool) → ((a && b) && not c) ≡ true → (a ≡ true) × (b ≡ true) × (c ≡ false)
    parts true true false e = (refl, refl, refl)
    parts true true true e = absurd (cc)
    parts true false c e = absurd (cc)
    parts false b c e = absurd (cc)

    -- a role that had a slot before isn't in the set of those that were vacant
    old-or : (role : ℕ) (b : Bool) → is_unassigned (reading_of old) role ≡ b → role < disks → is_unassigned (reading_of new) role ≡ true
        → (is_unassigned (reading_of old) role ≡ true) ⊎ (has_slot roles role ≡ true)
    old-or role true is lt now = inl is
    old-or role false is lt now =
        let out : has_slot was role ≡ false = vacant role ∙ ap (λ (b : Bool). nat_lt role disks && b) is ∙ none (nat_lt role disks) in
        inr (newly role ∙ ap (λ (b : Bool). (nat_lt role disks && is_unassigned (reading_of new) role) && not b) out
        ∙ ap₂ (λ (a b : Bool). (a && b) && not false) (lt-is role disks lt) now)
      where
        none : (b : Bool) → (b && false) ≡ false
        none true = refl
        none false = refl

    not-vacant : (role : ℕ) → nat_lt role disks ≡ true → has_slot was role ≡ false → is_unassigned (reading_of old) role ≡ false
    not-vacant role lt out = by (is_unassigned (reading_of old) role) (ap (λ (b : Bool). b && is_unassigned (reading_of old) role) (sym lt) ∙ sym (vacant role) ∙ out)
      where
        by : (b : Bool) → (true && b) ≡ false → b ≡ false
        by true e = absurd (cc)
        by false e = refl

    gone : (role slot : ℕ) → is_unassigned (reading_of new) role ≡ true → (holder (role_state (reading_of new) role) ≡ Some slot) ⊎ IsFaulted slot before after → IsFaulted slot before after
    gone role slot is (inr did) = did
    gone role slot is (inl held) = absurd (let e = sym (ap (λ (h : Option ℕ). not (is_some h)) held) ∙ is in cc)

    at : (role : ℕ) → (nat_lt role disks ≡ true) × (is_unassigned (reading_of new) role ≡ true) × (has_slot was role ≡ false) → (held : Option ℕ) → holder (role_state (reading_of old) role) ≡ held
        → (slot : ℕ) × (holder (role_state (reading_of old) role) ≡ Some slot) × IsFaulted slot before after
    at role are (Some slot) is = (slot, is, gone role slot are.1 (failed.roles role slot is))
    at role are None is = absurd (let e = sym (ap (λ (h : Option ℕ). not (is_some h)) is) ∙ not-vacant role are.0 are.2 in cc)

-- so each role that is missing was so before, or is one of them
pub since-missing : {given : Given} {old new : Members} {roles spares : ℕ} {before after : ℕ → ℕ} → IsMoved given old new → AreLostSince old new roles spares before after
    → (role : ℕ) → role < role_count new.newest → is_missing (reading_of new) role ≡ true → (is_missing (reading_of old) role ≡ true) ⊎ (has_slot roles role ≡ true)
since-missing {old = old} moved since role lt gone = elim (missing-before moved role gone) [
  | inl was ↦ inl was
  | inr none ↦ elim (since.vacant role lt none) [
    | inl was ↦ inl (vacant-missing (reading_of old) role was)
    | inr has ↦ inr has
  ]
]

-- ---- what was flushed

pub holders-updated : {tells : Type 0} {live lost lost' : ℕ} {Written : ℕ → Sector → Type 0} (given : Given) (r : Reading) {before after : List Operation} → IsUpdate tells live lost lost' Written given.start before after → tells
    → AreHoldersFlushed r given before → AreHoldersFlushed r given after
holders-updated given r {before = before} {after = after} update told flushed role slot k held other =
    single-kept (present given before slot k) (disk given.start before slot k) (disk given.start after slot k) (flushed role slot k held other) ((update.end told).touched.elsewhere slot k other)
    ∙ ap (λ (v : Sector). v ∷ []) (sym (others-updated given update told slot k other))

-- a stop leaves what holders had before as it is, for fewer holders too
pub holders-fewer : (given : Given) (old new : Members) (tape : List Operation) → AreStillHeld old new → AreHoldersFlushed (reading_of old) given tape → AreHoldersFlushed (reading_of new) given tape
holders-fewer given old new tape still flushed role slot k held other = flushed role slot k (still role slot held) other

pub holders-at : (r : Reading) (given given' : Given) (tape : List Operation) → given' ≡ given → AreHoldersFlushed r given tape → AreHoldersFlushed r given' tape
holders-at r given given' tape same flushed = subst (λ (b : Given). AreHoldersFlushed r b tape) (sym same) flushed

-- what was flushed, behind the loss of the slots that failed
pub holders-flushed : {tells : Type 0} (given : Given) (shape : Shape) (old new : Members) (tape : List Operation) (lost : ℕ) (before after : ℕ → ℕ) → AreLost given shape old new lost before after
    → AreMembersFlushed tells given tape (reading_of old) lost → tells → AreHoldersFlushed (reading_of new) given tape
holders-flushed given shape old new tape lost before after did flushed told role slot k held other =
    let less : AreLess lost old new = subst (λ (m : Members). AreLess lost old m) (sym did.members) (less-without old lost) in
    let state = ap (λ (l : List Role). get_or l role Missing) less.roles ∙ state-without lost old.roles role in
    let kept = state_kept lost slot (role_state (reading_of old) role) (ap holder (sym state) ∙ held) in
    flushed told role slot kept.holder kept.here k

pub since-lost : (given : Given) (shape : Shape) (old new : Members) (lost : ℕ) (before after : ℕ → ℕ) → AreLost given shape old new lost before after → HaveFailedSince old new 0 before after
since-lost given shape old new lost before after did =
    since-less lost 0 old new before after (subst (λ (m : Members). AreLess lost old m) (sym did.members) (less-without old lost)) (λ role slot held gone. (did.failed slot gone).0)
    (λ slot has. absurd (let e = none_there slot in cc)) (λ slot has. absurd (let e = none_there slot in cc))
    (λ slot is. ap (λ (m : Members). has_spare m.spares slot) (sym did.members) ∙ is) (λ slot has. inl (ap (λ (m : Members). has_spare m.spares slot) did.members ∙ has))

-- ---- sets of spares

pub in-either : (s t : ℕ) → IsUnion (bit_or s t) s t
in-either s t = record {
  parts = λ slot has. parts (has_slot s slot) (has_slot t slot) (sym (in-both s t slot) ∙ has);
  first = λ slot has. in-both s t slot ∙ ap (λ (b : Bool). b || has_slot t slot) has;
  second = λ slot has. in-both s t slot ∙ right (has_slot s slot) (has_slot t slot) has;
}
  where
    parts : (a b : Bool) → (a || b) ≡ true → (a ≡ true) ⊎ (b ≡ true)
    parts true b e = inl refl
    parts false b e = inr e

    right : (a b : Bool) → b ≡ true → (a || b) ≡ true
    right true b e = refl
    right false b e = e

-- no spare is in the first set
pub in-second : (t : ℕ) → IsUnion t 0 t
in-second t = record { parts = λ slot has. inr has; first = λ slot has. absurd (let e = none_there slot in cc); second = λ slot has. has }

-- ---- nothing was done

pub since-same : (m : Members) (before after : ℕ → ℕ) → HaveFailedSince m m 0 before after
since-same m before after = record {
  roles = λ role slot held. inl held;
  spares_are = λ slot has. absurd (let e = none_there slot in cc);
  were = λ slot has. absurd (let e = none_there slot in cc);
  fewer = λ slot is. is;
  told = λ slot has. inl has;
}

-- ---- refusals

-- where no role was asked for, an answer is refused only where too many are missing
pub too-many-answer : {T : Type 0} (m : Members) (shape : Shape) (answer : Result T Unavailable) → IsAnswer shape true (reading_of m) (λ role. ⊥) answer
    → MatchOption (refused_by shape m answer) ⊤ (LacksTooMany shape m)
too-many-answer m shape (Ok done) is = tt
too-many-answer m shape (Err TooManyMissing) is = record { above = is; told = refl }
too-many-answer m shape (Err (NotResynced role)) is = absurd (is.3)

-- where nothing tells that too many are missing, the array does without those that are
pub shape-without : (shape : Shape) (m : Members) → ((refusal : Refusal) → LacksTooMany shape m refusal → ⊥) → DoesWithout shape m
shape-without shape m never = elim (cases_lt (tolerance shape) (lacking shape m)) [
  | inl above ↦ absurd (never (too_many shape m) (record { above = above; told = refl }))
  | inr few ↦ few
]

pub does-without : (m : Members) → ((refusal : Refusal) → AreTooMany m refusal → ⊥) → DoWithout m
does-without m never =
    let old = shape-without (shape_of m.newest) m (λ refusal many. never refusal (inl many)) in
    record { old = old; final = shape-without (final_shape m.newest) m (λ refusal many. never refusal (inr (old, many))) }

-- an array that does without them is refused for no shape
pub never-both : (m : Members) (refusal : Refusal) → DoWithout m → AreTooMany m refusal → ⊥
never-both m refusal does (inl many) = absurd (let above = many.above in let few = does.old in omega (arith, above, few))
never-both m refusal does (inr many) = absurd (let above = many.1.above in let few = does.final in omega (arith, above, few))

-- in one of one shape, too many are missing of that
pub too-many-still : (m : Members) (refusal : Refusal) → is_reshaping m.newest ≡ false → AreTooMany m refusal → LacksTooMany (shape_of m.newest) m refusal
too-many-still m refusal still (inl many) = many
too-many-still m refusal still (inr many) = subst (λ (s : Shape). LacksTooMany s m refusal) (final-still m.newest still) many.1

pub never-lacking : {P : Type 0} (given : Given) (m : Members) (shape : Shape) (refusal : Refusal) → IsPlaced given m → IsInForce m.newest shape → AreWhole m → LacksTooMany shape m refusal → P
never-lacking given m shape refusal placed force whole many = absurd (not-whole given m placed shape force (let above = many.above in omega (arith, above)) whole)

pub never-too-many : {P : Type 0} (given : Given) (m : Members) (refusal : Refusal) → IsPlaced given m → AreWhole m → AreTooMany m refusal → P
never-too-many given m refusal placed whole (inl many) = never-lacking given m (shape_of m.newest) refusal placed (inl refl) whole many
never-too-many given m refusal placed whole (inr many) = never-lacking given m (final_shape m.newest) refusal placed (inr refl) whole many.1

pub none-refused : (given : Given) (m : Members) (o : Option Refusal) → MatchOption o ⊤ (AreTooMany m) → IsPlaced given m → AreWhole m → o ≡ None
none-refused given m None fine placed whole = refl
none-refused given m (Some refusal) many placed whole = never-too-many given m refusal placed whole many

pub none-lacking : (given : Given) (m : Members) (shape : Shape) (o : Option Refusal) → MatchOption o ⊤ (LacksTooMany shape m) → IsPlaced given m → IsInForce m.newest shape → AreWhole m → o ≡ None
none-lacking given m shape None fine placed force whole = refl
none-lacking given m shape (Some refusal) many placed force whole = never-lacking given m shape refusal placed force whole many

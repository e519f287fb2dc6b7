-- At the mark of an opening the facts hold from which every image is right.
use Rattle.std.proofs.Common.{◌≡◌, inl, inr, ℕ, zero, suc, ◌<◌, Bool, true, false, ◌||◌, cond, List, [], ◌∷◌, length, take, drop, get_or, refl, sym, ap, ◌∙◌, subst, Option, Some, None, arith, lit≤, take_all, le_refl, not-suc-le-zero}
use Rattle.std.specs.Prelude.{⊤}
use Rattle.std.specs.Prelude.{⊤}
use Rattle.bank.specs.raid_types_the_Span.{Span}
use Rattle.array_found_laws.specs.raid_types_Sectors.{Sector}
use Rattle.array_found_laws.specs.raid_types_Shapes.{has_slot}
use Rattle.array_found_laws.proofs.raid_types_Tabulated.{length-tabulate, get_or-tabulate}
use Rattle.array_found_laws.specs.sb_codec_the_Sb.{Sb}
use Rattle.bank.specs.declared.bank.Operation.{Operation}
use Rattle.bank.specs.Given.{Given}
use Rattle.bank.specs.Tape.{Contents, contents, disk, IsIn}
use Rattle.bank.proofs.Images.{image-now}
use Rattle.array_found_laws.specs.sb_specs_Reading.{Reading, reading, is_reshaping, shape_of, final_shape, is_backward, next_window, list_length}
use Rattle.array_found_laws.specs.sb_specs_Election.{reading_in}
use Rattle.array_found_laws.specs.reshape_geometry_Geometry.{window}
use Rattle.array_found_laws.proofs.Held.{one}
use Rattle.sb_add_spare.specs.history_ActiveSection.{active_section}
use Rattle.sb_add_spare.specs.history_Stands.{stands, standing_sector, placed_sector, shape_for, covers}
use Rattle.sb_add_spare.specs.history_Flat.{IsAllowed, values_of}
use Rattle.sb_add_spare.specs.history_World.{World, opening_list, may_hold}
use Rattle.sb_add_spare.specs.history_Settled.{IsSettled, HasSources, IsSourced, IsOneOfNextTwo, deciding}
use Rattle.sb_add_spare.specs.history_Same.{HaveSameSlots}
use Rattle.sb_add_spare.proofs.history_SettledLaws.{safe-of-sources}
use Rattle.sb_add_spare.proofs.history_SameLaws.{stands-is}
use Rattle.sb_add_spare.proofs.history_GivenLaws.{only-given-seen}
use Rattle.array_create_assemble.specs.declared.opening.Opened.{Opened}
use Rattle.array_create_assemble.specs.Opening.{IsOpened, AreFlushed}
use Rattle.array_create_assemble.specs.Safe.{world_of, OpeningsAreSafe}

-- at the opening each sector may have the value that it has
first-value : (list : List Sector) (x : ℕ) → x < length list → IsIn (take 1 (drop x list)) (get_or list x [])
first-value [] x h = absurd (not-suc-le-zero h)
first-value (value ∷ list) zero h = inl refl
first-value (value ∷ list) (suc x) h = first-value list x (omega (arith, h))

still-allowed : (list : List Sector) (x : ℕ) → x < length list → IsAllowed list [] x (get_or list x [])
unfolding values_of
still-allowed list x h = first-value list x h

off : {X : Type 0} (b : Bool) (x y : X) → b ≡ false → cond b x y ≡ y
off true x y e = absurd (cc)
off false x y e = refl

-- without a reshape there is no next window
no-window : (sb : Sb) (span : Span) → is_reshaping sb ≡ false → next_window sb ≡ Some span → ⊥
no-window sb span still e = contrary (sym (ap (λ b. cond b (window (shape_of sb) (final_shape sb) sb.size (is_backward sb) sb.reshape_position) None) still) ∙ e)
  where
    contrary : ◌≡◌ {A = Option Span} None (Some span) → ⊥
    contrary e = absurd (cc)

module _ (bank : Given) (tape : List Operation) (backup : Option ℕ) (asked : Option (List ℕ)) (opened : Opened) (live : ℕ)
    (is_opened : IsOpened ⊤ bank (contents bank.start tape (length tape)) backup asked opened)
    (flushed : AreFlushed bank.start tape opened.given)
    (within : (s : ℕ) → has_slot live s ≡ true → has_slot opened.given s ≡ true) where
  abbrev world : World
  world = world_of bank tape backup opened

  abbrev stored : Contents
  stored = contents bank.start tape (length tape)

  -- a value that a stop may leave in a given slot is the stored one
  held-one : (s k : ℕ) (a : Sector) → has_slot opened.given s ≡ true → IsIn (may_hold world (length tape) s k) a → a ≡ stored s k
  held-one s k a given held =
      one (subst (λ l. IsIn l a)
      (ap (λ l. disk bank.start l s k) (take_all (length tape) tape (le_refl (length tape))) ∙ flushed s k given) held)

  either-given : (s : ℕ) → (has_slot live s || has_slot opened.given s) ≡ true → has_slot opened.given s ≡ true
  either-given s e = by_live (has_slot live s) refl e
    where
      by_live : (b : Bool) → has_slot live s ≡ b → (b || has_slot opened.given s) ≡ true → has_slot opened.given s ≡ true
      by_live true is e = within s is
      by_live false is e = e

  settled : IsSettled world live (length tape)
  settled = record {
    unsettled = None;
    ninth = λ slot member known a b held_a held_b. held-one slot 9 a (either-given slot known) held_a ∙ sym (held-one slot 9 b (either-given slot known) held_b);
    others = λ slot is apart a b ninth held_a held_b held_ninth.
        inl (held-one slot (deciding world slot) a (within slot is) held_a ∙ sym (held-one slot (deciding world slot) b (within slot is) held_b));
    at_most_two = λ slot given member. (
      stored slot (deciding world slot),
      stored slot (deciding world slot),
      λ a ninth held held_ninth. inl (inl (held-one slot (deciding world slot) a given held)),
    );
  }

  module _ (c : Contents) (same : HaveSameSlots world.scope c stored) where
    same-list : stands world.scope c ≡ opening_list world
    unfolding opening_list
    same-list = (only-given-seen world.scope c stored same).2

    no-reshape : (r : Reading) → reading world.scope c ≡ Some r → is_reshaping r.newest ≡ false
    no-reshape r here =
        let found : Some r ≡ Some (reading_in bank.slots opened.members) = sym here ∙ (only-given-seen world.scope c stored same).0 ∙ is_opened.says tt in
        let it : r ≡ reading_in bank.slots opened.members = cc in
        ap (λ (r : Reading). is_reshaping r.newest) it ∙ is_opened.still

    no-next : (r : Reading) (span : Span) → reading world.scope c ≡ Some r → IsOneOfNextTwo r.newest span → ⊥
    no-next r span here (inl next) = no-window r.newest span (no-reshape r here) next
    no-next r span here (inr next) = no-window r.newest next.0 (no-reshape r here) next.1

    at-place : (r : Reading) (x : ℕ) → reading world.scope c ≡ Some r → x < list_length r.newest → covers (active_section world.scope c r) x ≡ false
        → get_or (stands world.scope c) x [] ≡ placed_sector c r (shape_for r.newest x) x
    at-place r x here inside free =
        ap (λ l. get_or l x []) (stands-is world.scope c r here)
        ∙ get_or-tabulate (list_length r.newest) (standing_sector world.scope c r) x [] inside
        ∙ off (covers (active_section world.scope c r) x) _ (placed_sector c r (shape_for r.newest x) x) free

    sourced : IsSourced world [] c
    sourced = record {
      assembles = (only-given-seen world.scope c stored same).1 ∙ is_opened.accepted tt;
      sized = ap length same-list;
      sections = λ r backup span x here is given has next low high. absurd (no-next r span here next);
      sources = λ r x here inside free.
          let long : length (stands world.scope c) ≡ list_length r.newest =
          ap length (stands-is world.scope c r here) ∙ length-tabulate (list_length r.newest) (standing_sector world.scope c r) in
          let below : x < length (opening_list world) = subst (λ n. x < n) (sym long ∙ ap length same-list) inside in
          subst (λ v. IsAllowed (opening_list world) [] x v)
          (ap (λ l. get_or l x []) (sym same-list) ∙ at-place r x here inside free) (still-allowed (opening_list world) x below);
    }

  sources : HasSources world [] (length tape)
  sources c image = (
    0,
    lit≤ tt,
    lit≤ tt,
    inl ([], inl refl, sourced c (λ slot k given. one (subst (λ l. IsIn l (c slot k)) (flushed slot k given) (image-now bank.start tape c image slot k)))),
  )

pub openings-safe : OpeningsAreSafe
openings-safe bank tape backup asked opened live is_opened flushed within =
    let facts : HasSources (world_of bank tape backup opened) [] (length tape) = sources bank tape backup asked opened live is_opened flushed within in (
      record { settled = settled bank tape backup asked opened live is_opened flushed within; sources = facts },
      safe-of-sources (world_of bank tape backup opened) [] (length tape) facts,
    )

-- what a bank tells
pub opened-told : {tells : Type 0} {bank : Given} {c : Contents} {backup : Option ℕ} {asked : Option (List ℕ)} {opened : Opened}
    → tells → IsOpened tells bank c backup asked opened → IsOpened ⊤ bank c backup asked opened
opened-told told is = record {
  elected = is.elected;
  lost = is.lost;
  still = is.still;
  array = λ known. is.array told;
  says = λ known. is.says told;
  accepted = λ known. is.accepted told;
}

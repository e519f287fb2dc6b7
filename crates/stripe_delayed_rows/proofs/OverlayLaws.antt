-- What keeps the overlay right.
use Rattle.std.proofs.Common.{◌≡◌, ℕ, ◌<◌, inl, inr, ◌==◌, Bool, true, false, not, if◌then◌else◌, List, Option, Some, None, bit_or, max, refl, sym, ap, ap₂, ◌∙◌, subst, arith}
use Rattle.std.specs.Option.{option_map_or}
use Rattle.std.specs.Int.{bit_at}
use Rattle.std.specs.List.{find}
use Rattle.std.proofs.lemmas.Bool.Decides.{nat_tests}
use Rattle.std.proofs.lemmas.Nat.Bits.{bit_at_or, bit_at-zero, bit_at-lt}
use Rattle.raid_layout.specs.raid_types_Sectors.{Sector}
use Rattle.raid_layout.specs.raid_types_Shapes.{has_slot}
use Rattle.raid_layout.specs.raid_types_the_Side.{Side}
use Rattle.raid_layout.specs.raid_types_the_Place.{Place}
use Rattle.raid_layout.specs.Layout.{place}
use Rattle.bank.specs.Tape.{IsIn}
use Rattle.stripe_cache.specs.declared.cached.Cached.{Cached}
use Rattle.stripe_cache.specs.Rows.{Rows, is_row, is_delayed, held_row, used, kept, pushed_out, leaving}
use Rattle.stripe_cache.specs.Apart.{IsCache}
use Rattle.stripe_cache.proofs.Laws.{is_row-true, held_row-used, held_row-kept, held_row-kept_other, held_row-kept_none, delayed-kept_other, held_row-without, held_row-without_other, IsCache-without, IsCache-kept, IsCache-used, delayed-none}
use Rattle.stripe_cache.proofs.Views.{without-none}
use Rattle.stripe_delayed_rows.specs.Overlay.{Sides, placed, is_in_row, held_at, sector_in, overlaid, AreDelayed, with_row, IsHeld, IsRowOfSide, taken, no_rows, IsRowWritten}
use Rattle.stripe_delayed_rows.specs.Laws.{ReadsAreTheList, UndelayedIsStored, EmptyIsDelayed, UsedIsDelayed, KeptIsDelayed, EvictedIsDelayed, WrittenThroughIsDelayed, TakenIsDelayed, RowsAreOfTheList, LeavingIsHeld, TakenIsHeld, StoringRowsIsAllowed, MoreIsAllowed, FlushedIsAllowed, FewStayFew, RowsStayOfSides, MovedIsDelayed, RenamedIsDelayed, NoneOfTheWindow}
use Rattle.stripe_delayed_rows.proofs.RowLaws.{by_bool, by_option, never, same_test, same_held, held_own, held_is, taken-held, leaving-held, leaving-other, leaving-gone, pushed-gone}

-- ---- changed roles

-- no role is changed where a row isn't delayed
none_changed : (c : Cached) (role : ℕ) → is_delayed c ≡ false → has_slot c.changed role ≡ false
none_changed c role h = subst (λ (n : ℕ). has_slot n role ≡ false) (sym (nothing c.changed h)) (ap (λ b. b == 1) (bit_at-zero role))
  where
    nothing : (n : ℕ) → not (n == 0) ≡ false → n ≡ 0
    nothing n h = grind (arith, nat_tests)

-- a role that isn't in a sum of sets is in none of them
neither : (a b role : ℕ) → has_slot (bit_or a b) role ≡ false → (has_slot a role ≡ false) × (has_slot b role ≡ false)
neither a b role h = by_bits (bit_at a role) (bit_at b role) (bit_at-lt a role) (bit_at-lt b role) (sym (ap (λ n. n == 1) (bit_at_or a b role)) ∙ h)
  where
    by_bits : (m n : ℕ) → m < 2 → n < 2 → (max m n == 1) ≡ false → ((m == 1) ≡ false) × ((n == 1) ≡ false)
    by_bits m n lm ln h = (first m n lm ln h, second m n lm ln h)
      where
        first : (m n : ℕ) → m < 2 → n < 2 → (max m n == 1) ≡ false → (m == 1) ≡ false
        first m n lm ln h = grind (arith, nat_tests)

        second : (m n : ℕ) → m < 2 → n < 2 → (max m n == 1) ≡ false → (n == 1) ≡ false
        second m n lm ln h = grind (arith, nat_tests)

-- ---- one sector

module _ (sides : Sides) (rows : Rows) (stored : ℕ → Sector) where
  -- by what the cache holds of it
  over-none : (x : ℕ) → held_at sides rows x ≡ None → overlaid sides rows stored x ≡ stored x
  over-none x h = ap (λ (o : Option Cached). option_map_or (λ cached. sector_in cached (placed sides x).role) o (stored x)) h

  over-some : (x : ℕ) (c : Cached) → held_at sides rows x ≡ Some c → overlaid sides rows stored x ≡ sector_in c (placed sides x).role
  over-some x c h = ap (λ (o : Option Cached). option_map_or (λ cached. sector_in cached (placed sides x).role) o (stored x)) h

  -- a sector that isn't in the cache is stored, and one of a row is the row's
  pub stored-none : (list : ℕ → Sector) → AreDelayed sides rows stored list → (x : ℕ) → held_at sides rows x ≡ None → stored x ≡ list x
  stored-none list right x h = sym (over-none x h) ∙ right.over x

  row-some : (list : ℕ → Sector) → AreDelayed sides rows stored list → (x : ℕ) (c : Cached) → held_at sides rows x ≡ Some c → sector_in c (placed sides x).role ≡ list x
  row-some list right x c h = sym (over-some x c h) ∙ right.over x

  -- a row that isn't delayed says nothing new
  stored-still : (list : ℕ → Sector) → AreDelayed sides rows stored list → (x : ℕ) (c : Cached) → held_at sides rows x ≡ Some c → is_delayed c ≡ false → stored x ≡ list x
  stored-still list right x c h still = right.unchanged x c h (none_changed c (placed sides x).role still)

-- a held row is what the cache has of its sectors
held-at : (sides : Sides) (rows : Rows) (c : Cached) (x : ℕ) → IsHeld rows c → is_in_row sides x c ≡ true → held_at sides rows x ≡ Some c
held-at sides rows c x held of = sym (same_held (sides.side x) (placed sides x).row c rows of) ∙ held

pub with-here : (sides : Sides) (c : Cached) (stored : ℕ → Sector) (x : ℕ) → is_in_row sides x c ≡ true → with_row sides c stored x ≡ sector_in c (placed sides x).role
with-here sides c stored x h = ap (λ (b : Bool). if b then sector_in c (placed sides x).role else stored x) h

pub with-other : (sides : Sides) (c : Cached) (stored : ℕ → Sector) (x : ℕ) → is_in_row sides x c ≡ false → with_row sides c stored x ≡ stored x
with-other sides c stored x h = ap (λ (b : Bool). if b then sector_in c (placed sides x).role else stored x) h

-- the overlay is right where each sector is: held in a row of the list, and stored where its role isn't changed, or stored
pub record IsSectorRight (sides : Sides) (rows : Rows) (stored list : ℕ → Sector) (x : ℕ) : Type 0 where
  pub some : (c : Cached) → held_at sides rows x ≡ Some c → (sector_in c (placed sides x).role ≡ list x) × (has_slot c.changed (placed sides x).role ≡ false → stored x ≡ list x)
  pub none : held_at sides rows x ≡ None → stored x ≡ list x

right-each : (sides : Sides) (rows : Rows) (stored list : ℕ → Sector) → ((x : ℕ) → IsSectorRight sides rows stored list x) → AreDelayed sides rows stored list
right-each sides rows stored list each = record {
  over = λ x. by_option (overlaid sides rows stored x ≡ list x) (held_at sides rows x)
      (λ h. over-none sides rows stored x h ∙ (each x).none h)
      (λ c h. over-some sides rows stored x c h ∙ ((each x).some c h).0);
  unchanged = λ x c h. ((each x).some c h).1;
}

sector-right : (sides : Sides) (rows : Rows) (stored list : ℕ → Sector) → AreDelayed sides rows stored list → (x : ℕ) → IsSectorRight sides rows stored list x
sector-right sides rows stored list right x = record {
  some = λ c h. (row-some sides rows stored list right x c h, right.unchanged x c h);
  none = λ h. stored-none sides rows stored list right x h;
}

-- the same by what is looked up and what is stored there
same-right : (sides : Sides) (rows rows' : Rows) (stored stored' list list' : ℕ → Sector) (x : ℕ) → held_at sides rows' x ≡ held_at sides rows x → stored' x ≡ stored x → list' x ≡ list x
    → IsSectorRight sides rows stored list x → IsSectorRight sides rows' stored' list' x
same-right sides rows rows' stored stored' list list' x look at is was = record {
  some = λ c h. let s : (sector_in c (placed sides x).role ≡ list x) × (has_slot c.changed (placed sides x).role ≡ false → stored x ≡ list x) = was.some c (sym look ∙ h) in (s.0 ∙ sym is, λ n. at ∙ s.1 n ∙ sym is);
  none = λ h. at ∙ was.none (sym look ∙ h) ∙ sym is;
}

-- ---- reads

pub reads : ReadsAreTheList
reads sides rows stored list read over right x at some' none' = by_option (over x ≡ list x) (held_at sides rows x)
    (λ h. none' h ∙ at ∙ stored-none sides rows stored list right x h)
    (λ c h. some' c h ∙ row-some sides rows stored list right x c h)

-- ---- an empty cache

pub undelayed : UndelayedIsStored
undelayed sides rows stored list none right x = by_option (stored x ≡ list x) (held_at sides rows x)
    (λ h. stored-none sides rows stored list right x h)
    (λ c h. stored-still sides rows stored list right x c h (delayed-none rows none (sides.side x) (placed sides x).row c h))

pub empty : EmptyIsDelayed
empty sides room stored list same = right-each sides (no_rows room) stored list (λ x. record { some = λ c h. absurd (nothing c h); none = λ h. same x })
  where
    nothing : (c : Cached) → None ≡ Some c → ⊥
    nothing c h = cc

-- ---- a use

pub using : UsedIsDelayed
using sides rows side row stored list cache right = right-each sides (used side row rows) stored list (λ x.
    same-right sides rows (used side row rows) stored stored list list x (held_row-used side row rows cache (sides.side x) (placed sides x).row) refl refl (sector-right sides rows stored list right x))

-- ---- a row is kept

-- the sectors of the kept row
kept-here : (sides : Sides) (rows : Rows) (c : Cached) (stored list list' : ℕ → Sector) → AreDelayed sides rows stored list → IsRowWritten sides c list list' → (x : ℕ) → is_in_row sides x c ≡ true
    → IsSectorRight sides (kept c rows) stored list' x
kept-here sides rows c stored list list' right written x of = by_option (IsSectorRight sides (kept c rows) stored list' x) (held_row c.side c.row rows)
    (λ absent. record {
      some = λ d h. let is : c ≡ d = inner c d (sym (now (ap (λ (o : Option Cached). option_map_or (λ old. bit_or old.changed c.changed) o c.changed) absent)) ∙ h) in
          subst (λ (d : Cached). (sector_in d (placed sides x).role ≡ list' x) × (has_slot d.changed (placed sides x).role ≡ false → stored x ≡ list' x)) is
          (written.here x of, λ n. stored-none sides rows stored list right x (look ∙ absent) ∙ sym (written.same x of n));
      none = λ h. absurd (there h);
    })
    (λ old held. record {
      some = λ d h. let is : record c { changed = bit_or old.changed c.changed } ≡ d = inner (record c { changed = bit_or old.changed c.changed }) d
          (sym (now (ap (λ (o : Option Cached). option_map_or (λ old. bit_or old.changed c.changed) o c.changed) held)) ∙ h) in
          subst (λ (d : Cached). (sector_in d (placed sides x).role ≡ list' x) × (has_slot d.changed (placed sides x).role ≡ false → stored x ≡ list' x)) is (
            written.here x of,
            λ n. let two : (has_slot old.changed (placed sides x).role ≡ false) × (has_slot c.changed (placed sides x).role ≡ false) = neither old.changed c.changed (placed sides x).role n in
                right.unchanged x old (look ∙ held) two.0 ∙ sym (written.same x of two.1),
          );
      none = λ h. absurd (there h);
    })
  where
    inner : (a b : Cached) → Some a ≡ Some b → a ≡ b
    inner a b h = cc

    look : held_at sides rows x ≡ held_row c.side c.row rows
    look = sym (same_held (sides.side x) (placed sides x).row c rows of)

    look' : held_at sides (kept c rows) x ≡ held_row c.side c.row (kept c rows)
    look' = sym (same_held (sides.side x) (placed sides x).row c (kept c rows) of)

    now : {n : ℕ} → option_map_or (λ old. bit_or old.changed c.changed) (held_row c.side c.row rows) c.changed ≡ n → held_at sides (kept c rows) x ≡ Some (record c { changed = n })
    now {n} e = look' ∙ held_row-kept c rows ∙ ap (λ (n : ℕ). Some (record c { changed = n })) e

    there : held_at sides (kept c rows) x ≡ None → ⊥
    there h = nothing (sym (now refl) ∙ h)
      where
        nothing : {d : Cached} → Some d ≡ None → ⊥
        nothing h = cc

-- what becomes of a sector of another row: its row stays, or leaves, or wasn't delayed, or isn't held
kept-other : (sides : Sides) (rows : Rows) (c : Cached) (stored list list' : ℕ → Sector) → IsCache rows → AreDelayed sides rows stored list → IsRowWritten sides c list list' → (x : ℕ) → is_in_row sides x c ≡ false
    → ((d : Cached) → held_at sides rows x ≡ Some d → leaving c rows ≡ Some d → IsSectorRight sides (kept c rows) stored list' x)
    → IsSectorRight sides (kept c rows) stored list' x
kept-other sides rows c stored list list' cache right written x other out = by_option (IsSectorRight sides (kept c rows) stored list' x) (held_at sides rows x)
    (λ none. same-right sides rows (kept c rows) stored stored list list' x (held_row-kept_none c rows (sides.side x) (placed sides x).row other none ∙ sym none) refl (written.other x other)
    (sector-right sides rows stored list right x))
    (λ d held. by_bool (IsSectorRight sides (kept c rows) stored list' x) (is_delayed d)
    (λ delayed. elim (delayed-kept_other c rows cache (sides.side x) (placed sides x).row d other held delayed) [
      | inl here ↦ same-right sides rows (kept c rows) stored stored list list' x (here ∙ sym held) refl (written.other x other) (sector-right sides rows stored list right x)
      | inr gone ↦ out d held gone
    ])
    (λ still. elim (held_row-kept_other c rows cache (sides.side x) (placed sides x).row d other held) [
      | inl here ↦ same-right sides rows (kept c rows) stored stored list list' x (here ∙ sym held) refl (written.other x other) (sector-right sides rows stored list right x)
      | inr gone ↦ record {
        some = λ e h. absurd (both e h (dropped d held gone.0 gone.1));
        none = λ h. stored-still sides rows stored list right x d held still ∙ sym (written.other x other);
      }
    ]))
  where
    both : (e : Cached) → held_at sides (kept c rows) x ≡ Some e → held_at sides (kept c rows) x ≡ None → ⊥
    both e h g = cc

    -- a row that isn't delayed may leave unseen
    dropped : (d : Cached) → held_at sides rows x ≡ Some d → held_row c.side c.row rows ≡ None → pushed_out rows ≡ Some d → held_at sides (kept c rows) x ≡ None
    dropped d held absent pushed = let mine : is_in_row sides x d ≡ true = held_is rows (sides.side x) (placed sides x).row d held in
        sym (same_held (sides.side x) (placed sides x).row d (kept c rows) mine) ∙ pushed-gone rows c d cache absent pushed (same_test (sides.side x) (placed sides x).row d c mine ∙ other)

pub keeping : KeptIsDelayed
keeping sides rows c stored list list' cache none written right = right-each sides (kept c rows) stored list' (λ x. by_bool (IsSectorRight sides (kept c rows) stored list' x) (is_in_row sides x c)
    (λ of. kept-here sides rows c stored list list' right written x of)
    (λ other. kept-other sides rows c stored list list' cache right written x other (λ d held gone. absurd (both d none gone))))
  where
    both : (d : Cached) → leaving c rows ≡ None → leaving c rows ≡ Some d → ⊥
    both d h g = cc

-- the same of what is stored besides, by what is stored of this sector
stored-right : (sides : Sides) (rows : Rows) (stored stored' list : ℕ → Sector) (x : ℕ) → stored' x ≡ stored x → IsSectorRight sides rows stored list x → IsSectorRight sides rows stored' list x
stored-right sides rows stored stored' list x at was = same-right sides rows rows stored stored' list list x refl at refl was

pub evicting : EvictedIsDelayed
evicting sides rows c gone stored list list' cache leaves written right = right-each sides (kept c rows) (with_row sides gone stored) list' (λ x. by_bool (IsSectorRight sides (kept c rows) (with_row sides gone stored) list' x) (is_in_row sides x gone)
    (λ mine. record {
      some = λ e h. absurd (both e x h (sym (same_held (sides.side x) (placed sides x).row gone (kept c rows) mine) ∙ leaving-gone rows c gone cache leaves));
      none = λ h. with-here sides gone stored x mine
          ∙ row-some sides rows stored list right x gone (held-at sides rows gone x (leaving-held rows c gone cache leaves).0 mine)
          ∙ sym (written.other x (sym (same_test (sides.side x) (placed sides x).row gone c mine) ∙ leaving-other rows c gone cache leaves));
    })
    (λ not_mine. stored-right sides (kept c rows) stored (with_row sides gone stored) list' x (with-other sides gone stored x not_mine)
    (by_bool (IsSectorRight sides (kept c rows) stored list' x) (is_in_row sides x c)
    (λ of. kept-here sides rows c stored list list' right written x of)
    (λ other. kept-other sides rows c stored list list' cache right written x other
    (λ d held leaves'. absurd (never (sym (held_is rows (sides.side x) (placed sides x).row d held)
    ∙ ap (λ (d : Cached). is_in_row sides x d) (inner d gone (sym leaves' ∙ leaves)) ∙ not_mine)))))))
  where
    both : (e : Cached) (x : ℕ) → held_at sides (kept c rows) x ≡ Some e → held_at sides (kept c rows) x ≡ None → ⊥
    both e x h g = cc

    inner : (a b : Cached) → Some a ≡ Some b → a ≡ b
    inner a b h = cc

pub through : WrittenThroughIsDelayed
through sides rows c stored list list' absent written right = right-each sides rows (with_row sides c stored) list' (λ x. by_bool (IsSectorRight sides rows (with_row sides c stored) list' x) (is_in_row sides x c)
    (λ of. record {
      some = λ e h. absurd (both e x h (sym (same_held (sides.side x) (placed sides x).row c rows of) ∙ absent));
      none = λ h. with-here sides c stored x of ∙ written.here x of;
    })
    (λ other. same-right sides rows rows stored (with_row sides c stored) list list' x refl (with-other sides c stored x other) (written.other x other) (sector-right sides rows stored list right x)))
  where
    both : (e : Cached) (x : ℕ) → held_at sides rows x ≡ Some e → held_at sides rows x ≡ None → ⊥
    both e x h g = cc

-- ---- a row is written out

pub taking : TakenIsDelayed
taking sides test rows gone stored list cache found right = right-each sides (taken test rows) (with_row sides gone stored) list (λ x. by_bool (IsSectorRight sides (taken test rows) (with_row sides gone stored) list x) (is_in_row sides x gone)
    (λ mine. record {
      some = λ e h. absurd (both e x h (sym (same_held (sides.side x) (placed sides x).row gone (taken test rows) mine) ∙ held_row-without test rows cache gone found));
      none = λ h. with-here sides gone stored x mine ∙ row-some sides rows stored list right x gone (held-at sides rows gone x (taken-held test rows gone cache found).0 mine);
    })
    (λ other. same-right sides rows (taken test rows) stored (with_row sides gone stored) list list x (held_row-without_other test rows gone found (sides.side x) (placed sides x).row other) (with-other sides gone stored x other) refl
    (sector-right sides rows stored list right x)))
  where
    both : (e : Cached) (x : ℕ) → held_at sides (taken test rows) x ≡ Some e → held_at sides (taken test rows) x ≡ None → ⊥
    both e x h g = cc

pub of-list : RowsAreOfTheList
of-list sides rows gone stored list cache held right x of = let at : held_at sides rows x ≡ Some gone = held-at sides rows gone x held of in
    (row-some sides rows stored list right x gone at, right.unchanged x gone at)

pub leaves-held : LeavingIsHeld
leaves-held = leaving-held

pub takes-held : TakenIsHeld
takes-held = taken-held

-- ---- what a crash may leave

pub storing : StoringRowsIsAllowed
storing sides gone size values stored list of allowed was x lt = by_bool (IsIn (values x) (with_row sides gone stored x)) (is_in_row sides x gone)
    (λ mine. subst (λ (v : Sector). IsIn (values x) v) (sym (with-here sides gone stored x mine ∙ of x mine)) (allowed x lt))
    (λ other. subst (λ (v : Sector). IsIn (values x) v) (sym (with-other sides gone stored x other)) (was x lt))

pub more-allowed : MoreIsAllowed
more-allowed size values more stored adds was x lt = adds x lt (stored x) (was x lt)

pub flushed : FlushedIsAllowed
flushed sides rows size stored list none right x lt = inl (undelayed sides rows stored list none right x)

-- ---- the rows

pub few : FewStayFew
few rows cache = (λ side row. IsCache-used side row rows cache, λ c. IsCache-kept c rows cache, λ test. IsCache-without test rows cache)

-- ---- in a reshape

pub moving : MovedIsDelayed
moving sides moved rows stored list shapes same right = right-each moved rows stored list (λ x. elim (same x) [
  | inl stays ↦ at-side x (moved.side x) stays
  | inr none ↦ record { some = λ e h. absurd (both e x h none.1); none = λ h. stored-none sides rows stored list right x none.0 }
])
  where
    both : (e : Cached) (x : ℕ) → held_at moved rows x ≡ Some e → held_at moved rows x ≡ None → ⊥
    both e x h g = cc

    at-side : (x : ℕ) (side : Side) → moved.side x ≡ sides.side x → IsSectorRight moved rows stored list x
    at-side x side stays =
        let there : placed moved x ≡ placed sides x = ap (λ (s : Side). place (moved.shape s) x) stays ∙ ap (λ shape. place shape x) (shapes (sides.side x)) in
        let look : held_at moved rows x ≡ held_at sides rows x = ap₂ (λ (s : Side) (p : Place). held_row s p.row rows) stays there in
        record {
          some = λ c h. let was : (sector_in c (placed sides x).role ≡ list x) × (has_slot c.changed (placed sides x).role ≡ false → stored x ≡ list x) = (sector-right sides rows stored list right x).some c (sym look ∙ h) in
              (ap (λ (p : Place). sector_in c p.role) there ∙ was.0, λ n. was.1 (sym (ap (λ (p : Place). has_slot c.changed p.role) there) ∙ n));
          none = λ h. (sector-right sides rows stored list right x).none (sym look ∙ h);
        }

pub renaming : RenamedIsDelayed
renaming sides one rows stored list same right = right-each one rows stored list at-side
  where
    at-side : (x : ℕ) → IsSectorRight one rows stored list x
    at-side x =
        let there : placed one x ≡ placed sides x = ap (λ (s : Side). place (one.shape s) x) (same x).0 ∙ ap (λ shape. place shape x) (same x).1 in
        let look : held_at one rows x ≡ held_at sides rows x = ap₂ (λ (s : Side) (p : Place). held_row s p.row rows) (same x).0 there in
        record {
          some = λ c h. let was : (sector_in c (placed sides x).role ≡ list x) × (has_slot c.changed (placed sides x).role ≡ false → stored x ≡ list x) = (sector-right sides rows stored list right x).some c (sym look ∙ h) in
              (ap (λ (p : Place). sector_in c p.role) there ∙ was.0, λ n. was.1 (sym (ap (λ (p : Place). has_slot c.changed p.role) there) ∙ n));
          none = λ h. (sector-right sides rows stored list right x).none (sym look ∙ h);
        }

pub not-of-new : NoneOfTheWindow
not-of-new sides moved size rows x of shapes changes = by_option (held_at moved rows x ≡ None) (held_at moved rows x)
    (λ none. none)
    (λ c held. let name : (moved.side x ≡ c.side) × ((placed moved x).row ≡ c.row) = is_row-true (moved.side x) (placed moved x).row c (held_is rows (moved.side x) (placed moved x).row c held) in
    let row : (place (sides.shape c.side) x).row ≡ c.row = sym (ap (λ shape. (place shape x).row) (shapes c.side)) ∙ sym (ap (λ (s : Side). (place (moved.shape s) x).row) name.0) ∙ name.1 in
    absurd (changes (name.0 ∙ sym ((of c (held_own rows (moved.side x) (placed moved x).row c held)).region x row))))

pub sides-stay : RowsStayOfSides
sides-stay sides size rows cache of = (λ side row c held. of c (sym (held_row-used side row rows cache c.side c.row) ∙ held), λ new right c held. after-kept new right c held, λ test c held. after-taken test c held)
  where
    -- a row that is held afterwards was held before, or is the new one with more changed roles
    after-kept : (new : Cached) → IsRowOfSide sides size new → (c : Cached) → IsHeld (kept new rows) c → IsRowOfSide sides size c
    after-kept new right c held = by_bool (IsRowOfSide sides size c) (is_row c.side c.row new)
        (λ mine. let is : record new { changed = option_map_or (λ old. bit_or old.changed new.changed) (held_row new.side new.row rows) new.changed } ≡ c
        = inner (record new { changed = option_map_or (λ old. bit_or old.changed new.changed) (held_row new.side new.row rows) new.changed }) c
        (sym (held_row-kept new rows) ∙ same_held c.side c.row new (kept new rows) mine ∙ held) in
        subst (λ (d : Cached). IsRowOfSide sides size d) is (record { whole = right.whole; below = right.below; region = right.region }))
        (λ other. by_option (IsRowOfSide sides size c) (held_row c.side c.row rows)
        (λ none. absurd (both c (kept new rows) held (held_row-kept_none new rows c.side c.row other none)))
        (λ d there. elim (held_row-kept_other new rows cache c.side c.row d other there) [
          | inl here ↦ of c (there ∙ inner-some d c (sym here ∙ held))
          | inr gone ↦ absurd (both c (kept new rows) held
              (let mine : is_row c.side c.row d ≡ true = held_is rows c.side c.row d there in
              sym (same_held c.side c.row d (kept new rows) mine) ∙ pushed-gone rows new d cache gone.0 gone.1 (same_test c.side c.row d new mine ∙ other)))
        ]))
      where
        inner : (a b : Cached) → Some a ≡ Some b → a ≡ b
        inner a b h = cc

        inner-some : (a b : Cached) → Some a ≡ Some b → Some a ≡ Some b
        inner-some a b h = h

        both : (c : Cached) (rows : Rows) → held_row c.side c.row rows ≡ Some c → held_row c.side c.row rows ≡ None → ⊥
        both c rows h g = cc

    after-taken : (test : Cached → Bool) (c : Cached) → IsHeld (taken test rows) c → IsRowOfSide sides size c
    after-taken test c held = by_option (IsRowOfSide sides size c) (find test rows.held)
        (λ none. of c (ap (λ (xs : List Cached). find (is_row c.side c.row) xs) (sym (without-none test rows.held none)) ∙ held))
        (λ gone found. by_bool (IsRowOfSide sides size c) (is_row c.side c.row gone)
        (λ mine. absurd (both held (sym (same_held c.side c.row gone (taken test rows) mine) ∙ held_row-without test rows cache gone found)))
        (λ other. of c (sym (held_row-without_other test rows gone found c.side c.row other) ∙ held)))
      where
        both : held_row c.side c.row (taken test rows) ≡ Some c → held_row c.side c.row (taken test rows) ≡ None → ⊥
        both h g = cc

-- The windows of a reshape, one after another: they tile the way, and their steps add up.
use Rattle.std.proofs.Common.{◌≡◌, ℕ, zero, suc, ◌+◌, ◌-◌, ◌*◌, ◌/◌, ◌<◌, ◌≤◌, Bool, true, false, cond, min, [], ◌∷◌, Option, Some, None, refl, sym, ap, subst, ◌∙◌, arith}
use Rattle.std.specs.Prelude.{sum_by}
use Rattle.std.specs.Option.{option_map_or}
use Rattle.std.proofs.lemmas.Bool.{lt-leb, ne_eqb}
use Rattle.std.proofs.lemmas.List.Sums.{sum_by-cons}
use Rattle.raid_types.specs.declared.places.Shape.{Shape}
use Rattle.raid_types.specs.declared.places.Span.{Span}
use Rattle.raid_types.specs.Shapes.{stripe_sectors}
use Rattle.reshape_geometry.specs.Geometry.{unit, list_end, ceiling, window, next_windows, window_steps, beyond, begun, Tile, IsWindowAt}
use Rattle.reshape_geometry.proofs.Divisions.{ceiling_less, ceiling_zero, ceiling_grows, floor_le_ceiling, floor_shifts, ceiling_shifts, floor_of_multiple, ceiling_of_multiple, quotient_is}

-- the window at a position with something ahead
abbrev pub forward_window : Shape → Shape → ℕ → ℕ → Span
forward_window old new size p = record { lo = p; hi = min (p + unit old new) (list_end old new size) }

abbrev pub backward_window : Shape → Shape → ℕ → ℕ → Span
backward_window old new n p = record { lo = n * unit old new; hi = p }

pub window_ahead : (old new : Shape) (size p : ℕ) → p < list_end old new size → window old new size false p ≡ Some (forward_window old new size p)
window_ahead old new size p lt =
    ap (λ (b : Bool). cond b None (Some (forward_window old new size p))) (lt-leb (list_end old new size) p lt)

pub window_behind : (old new : Shape) (size p n : ℕ) → 0 < unit old new → ceiling p (unit old new) ≡ suc n → window old new size true p ≡ Some (backward_window old new n p)
window_behind old new size p n pu e =
    let b = ceiling_less p (unit old new) n pu e in
    let ne : p ≡ 0 → ⊥ = λ z. absurd (omega (arith, z, b.0)) in
    let at : (p - 1) / unit old new ≡ n = quotient_is (p - 1) (unit old new) n pu (omega (arith, b.0)) (omega (arith, b.1, b.0)) in
    ap (λ (t : Bool). cond t None (Some (backward_window old new ((p - 1) / unit old new) p))) (ne_eqb p 0 ne)
    ∙ ap (λ (q : ℕ). Some (backward_window old new q p)) at

-- ---- the windows of a list begin with the next one

pub forward_list : (old new : Shape) (size n p : ℕ) → p < list_end old new size
    → next_windows old new size false (suc n) p ≡ forward_window old new size p ∷ next_windows old new size false n (forward_window old new size p).hi
forward_list old new size n p lt =
    ap (λ (o : Option Span). option_map_or (λ (span : Span). span ∷ next_windows old new size false n (beyond false span)) o []) (window_ahead old new size p lt)

pub backward_list : (old new : Shape) (size n p : ℕ) → 0 < unit old new → ceiling p (unit old new) ≡ suc n
    → next_windows old new size true (suc n) p ≡ backward_window old new n p ∷ next_windows old new size true n (n * unit old new)
backward_list old new size n p pu e =
    ap (λ (o : Option Span). option_map_or (λ (span : Span). span ∷ next_windows old new size true n (beyond true span)) o []) (window_behind old new size p n pu e)

-- what is left behind a window
pub rest_ahead : (p u e n : ℕ) → 0 < u → ceiling (e - p) u ≡ suc n → (p < e) × (p < min (p + u) e) × (min (p + u) e ≤ e) × (ceiling (e - min (p + u) e) u ≡ n)
rest_ahead p u e n pu c =
    let b = ceiling_less (e - p) u n pu c in
    let lt : p < e = omega (arith, b.0) in
    let same : e - min (p + u) e ≡ e - p - u = omega arith in
    (lt, omega (arith, lt), omega arith, ap (λ (x : ℕ). ceiling x u) same ∙ b.2)

-- ---- they tile the way

pub forward_tiles : (old new : Shape) (size n p : ℕ) → 0 < unit old new → p ≤ list_end old new size → ceiling (list_end old new size - p) (unit old new) ≡ n
    → Tile false p (list_end old new size) (next_windows old new size false n p)
forward_tiles old new size zero p pu le c =
    let none = ceiling_zero _ _ pu c in omega (arith, none, le)
forward_tiles old new size (suc n) p pu le c =
    let r = rest_ahead p (unit old new) (list_end old new size) n pu c in
    subst (Tile false p (list_end old new size)) (sym (forward_list old new size n p r.0))
    (refl, r.1, forward_tiles old new size n (min (p + unit old new) (list_end old new size)) pu r.2 r.3)

pub backward_tiles : (old new : Shape) (size n p : ℕ) → 0 < unit old new → ceiling p (unit old new) ≡ n
    → Tile true p 0 (next_windows old new size true n p)
backward_tiles old new size zero p pu c = ceiling_zero p _ pu c
backward_tiles old new size (suc n) p pu c =
    let b = ceiling_less p (unit old new) n pu c in
    subst (Tile true p 0) (sym (backward_list old new size n p pu c))
    (refl, b.0, backward_tiles old new size n (n * unit old new) pu (ceiling_of_multiple n (unit old new) pu))

-- ---- their steps add up

-- the steps of n windows forward from a position, in one sum
abbrev pub forward_total : ℕ → ℕ → ℕ → ℕ → ℕ
forward_total s e zero p = 0
forward_total s e (suc n) p = 2 * suc n + (ceiling e s - p / s) + n * (ceiling p s - p / s)

-- a whole unit of t stripes further, with quotients f and c at the position and d at the end
one_unit_more : (f c d t n : ℕ) → f ≤ c → c + t ≤ d
    → 2 + (c + t - f) + (2 * suc n + (d - (f + t)) + n * (c + t - (f + t))) ≡ 2 * suc (suc n) + (d - f) + suc n * (c - f)
one_unit_more f c d t n le lt =
    let same : c + t - (f + t) ≡ c - f = omega arith in
    let times : n * (c + t - (f + t)) ≡ n * (c - f) = ap (λ (x : ℕ). n * x) same in
    let more : suc n * (c - f) ≡ n * (c - f) + (c - f) = omega arith in
    omega (arith, times, more)

forward_more : (s t e n p : ℕ) → 0 < s → p + t * s ≤ e
    → 2 + (ceiling (p + t * s) s - p / s) + forward_total s e (suc n) (p + t * s) ≡ forward_total s e (suc (suc n)) p
forward_more s t e n p ps le =
    let cs = ceiling_shifts p t s ps in
    let fs = floor_shifts p t s ps in
    let grows = ceiling_grows (p + t * s) e s ps le in
    let sum = one_unit_more (p / s) (ceiling p s) (ceiling e s) t n (floor_le_ceiling p p s ps (omega arith)) (omega (arith, cs, grows)) in
    let times : n * (ceiling (p + t * s) s - (p + t * s) / s) ≡ n * (ceiling p s + t - (p / s + t)) = ap (λ (x : ℕ). n * (x - (p + t * s) / s)) cs ∙ ap (λ (x : ℕ). n * (ceiling p s + t - x)) fs in
    omega (arith, cs, fs, times, sum)

pub forward_sum : (old new : Shape) (size n p t : ℕ) → 0 < stripe_sectors new → 0 < unit old new → unit old new ≡ t * stripe_sectors new
    → p ≤ list_end old new size → ceiling (list_end old new size - p) (unit old new) ≡ n
    → sum_by (window_steps new) (next_windows old new size false n p) ≡ forward_total (stripe_sectors new) (list_end old new size) n p
forward_sum old new size zero p t ps pu whole le c = refl
forward_sum old new size (suc zero) p t ps pu whole le c =
    let b = ceiling_less (list_end old new size - p) (unit old new) 0 pu c in
    let r = rest_ahead p (unit old new) (list_end old new size) 0 pu c in
    let last : min (p + unit old new) (list_end old new size) ≡ list_end old new size = omega (arith, b.1, le) in
    ap (sum_by (window_steps new)) (forward_list old new size 0 p r.0)
    ∙ sum_by-cons (window_steps new) (forward_window old new size p) []
    ∙ ap (λ (x : ℕ). 2 + (ceiling x (stripe_sectors new) - p / stripe_sectors new) + 0) last
    ∙ omega arith
forward_sum old new size (suc (suc n)) p t ps pu whole le c =
    let b = ceiling_less (list_end old new size - p) (unit old new) (suc n) pu c in
    let r = rest_ahead p (unit old new) (list_end old new size) (suc n) pu c in
    let one : unit old new ≤ suc n * unit old new = omega arith in
    let hi = min (p + unit old new) (list_end old new size) in
    let next : hi ≡ p + t * stripe_sectors new = omega (arith, b.0, one, whole) in
    let rest = forward_sum old new size (suc n) hi t ps pu whole r.2 r.3 in
    let inside : p + t * stripe_sectors new ≤ list_end old new size = omega (arith, next, r.2) in
    ap (sum_by (window_steps new)) (forward_list old new size (suc n) p r.0)
    ∙ sum_by-cons (window_steps new) (forward_window old new size p) (next_windows old new size false (suc n) hi)
    ∙ ap (λ (x : ℕ). 2 + (ceiling hi (stripe_sectors new) - p / stripe_sectors new) + x) rest
    ∙ ap (λ (x : ℕ). 2 + (ceiling x (stripe_sectors new) - p / stripe_sectors new) + forward_total (stripe_sectors new) (list_end old new size) (suc n) x) next
    ∙ forward_more (stripe_sectors new) t (list_end old new size) n p ps inside

pub backward_sum : (old new : Shape) (size n p t : ℕ) → 0 < stripe_sectors new → 0 < unit old new → unit old new ≡ t * stripe_sectors new
    → ceiling p (unit old new) ≡ n
    → sum_by (window_steps new) (next_windows old new size true n p) ≡ 2 * n + ceiling p (stripe_sectors new)
backward_sum old new size zero p t ps pu whole c =
    let none : ceiling p (stripe_sectors new) ≡ ceiling (0 * stripe_sectors new) (stripe_sectors new) = ap (λ (x : ℕ). ceiling x (stripe_sectors new)) (ceiling_zero p _ pu c ∙ omega arith) in
    let flat = ceiling_of_multiple 0 (stripe_sectors new) ps in
    let goal : 0 ≡ 2 * 0 + ceiling p (stripe_sectors new) = omega (arith, none, flat) in goal
backward_sum old new size (suc n) p t ps pu whole c =
    let b = ceiling_less p (unit old new) n pu c in
    let lo = n * unit old new in
    let by_stripe : lo ≡ (n * t) * stripe_sectors new = ap (λ (x : ℕ). n * x) whole ∙ omega arith in
    let floor : lo / stripe_sectors new ≡ n * t = ap (λ (x : ℕ). x / stripe_sectors new) by_stripe ∙ floor_of_multiple (n * t) (stripe_sectors new) ps in
    let up : ceiling lo (stripe_sectors new) ≡ n * t = ap (λ (x : ℕ). ceiling x (stripe_sectors new)) by_stripe ∙ ceiling_of_multiple (n * t) (stripe_sectors new) ps in
    let rest = backward_sum old new size n lo t ps pu whole (ceiling_of_multiple n (unit old new) pu) in
    let above = floor_le_ceiling lo p (stripe_sectors new) ps (omega (arith, b.0)) in
    let first = sum_by-cons (window_steps new) (backward_window old new n p) (next_windows old new size true n lo) in
    ap (sum_by (window_steps new)) (backward_list old new size n p pu c) ∙ first ∙ omega (arith, floor, up, rest, above)

-- ---- one window

pub forward_window_at : (old new : Shape) (size : ℕ) (back : Bool) (p hi e u : ℕ) → back ≡ false → p < e → e ≡ list_end old new size → u ≡ unit old new → 0 < u
    → hi ≡ min e (p + u) → IsWindowAt old new size back p (record { lo = p; hi = hi })
forward_window_at old new size back p hi e u forth lt ee eu pu eh =
    let span : Span = record { lo = p; hi = hi } in
    record {
      begins = ap (λ (b : Bool). begun b span) forth;
      filled = omega (arith, eh, lt, pu);
      longest = omega (arith, eh, eu);
      inside = omega (arith, eh, ee);
    }

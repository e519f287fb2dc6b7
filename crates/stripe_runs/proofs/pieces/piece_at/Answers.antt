use Rattle.std.proofs.Common.{◌≡◌, ℕ, ◌+◌, ◌*◌, ◌%◌, ◌<◌, true, sym, ◌∙◌, ap, arith}
use Rattle.raid_layout.specs.raid_types_the_Shape.{Shape}
use Rattle.raid_layout.specs.raid_types_the_Place.{Place}
use Rattle.raid_layout.specs.raid_types_Shapes.{is_valid_shape}
use Rattle.raid_layout.specs.Layout.{place, stripe_of, data_index, stripe_data}
use Rattle.raid_layout.proofs.Places.{chunk_some, data_index-below, sector_at, sector_at-parts, place-sector}
use Rattle.stripe_runs.proofs.pieces.piece_at.Goals as goal

-- from a sector on, those of its chunk stand on its role, in the rows behind its own
in_chunk : (shape : Shape) → is_valid_shape shape ≡ true → (x j role row : ℕ) → x % shape.chunk + j < shape.chunk → role ≡ (place shape x).role → row ≡ (place shape x).row
    → place shape (x + j) ≡ record { role = role; row = row + j }
in_chunk shape valid x j role row inside is_role is_row =
    let sum = sector_at-parts shape x in
    let same : sector_at shape (stripe_of shape x) (data_index shape x) (x % shape.chunk + j) ≡ x + j = omega (arith, sum) in
    ap (place shape) (sym same) ∙ place-sector shape (stripe_of shape x) (data_index shape x) (x % shape.chunk + j) (data_index-below shape valid x) inside
    ∙ as_place (stripe_data shape (stripe_of shape x) (data_index shape x)) role (stripe_of shape x * shape.chunk + (x % shape.chunk + j)) (row + j) (sym is_role) (omega (arith, is_row))
  where
    as_place : (a b m n : ℕ) → a ≡ b → m ≡ n → (let p : Place = record { role = a; row = m } in p) ≡ record { role = b; row = n }
    as_place a b m n e f = cc

pub returns-clause-places : goal.returns-clause-places
returns-clause-places c = λ j lt.
    let chunk : 0 < c.args.shape.now.chunk = chunk_some c.args.shape.now c.requires.shape in
    let inside : c.args.x % c.args.shape.now.chunk + j < c.args.shape.now.chunk = omega (arith, c.min.ensures, lt, chunk) in
    in_chunk c.args.shape.now c.requires.shape c.args.x j c.place-at.result.role c.place-at.result.row inside (ap (λ (p : Place). p.role) c.place-at.ensures.place) (ap (λ (p : Place). p.row) c.place-at.ensures.place)

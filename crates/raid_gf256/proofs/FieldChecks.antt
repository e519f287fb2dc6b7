-- Two products, computed.
use Rattle.std.proofs.Common.{◌≡◌, refl}
use Rattle.raid_gf256.specs.Field.{double, product_of_bits, product}

product_2_80 : product 2 0x80 ≡ 0x1d
unfolding double product_of_bits product
product_2_80 = refl

inverse_2 : product 2 0x8e ≡ 1
unfolding double product_of_bits product
inverse_2 = refl

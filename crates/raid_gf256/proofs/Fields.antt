-- All of the field's laws.
use Rattle.raid_gf256.specs.Field.{IsField}
use Rattle.raid_gf256.proofs.Modulo.{product-modulo}
use Rattle.raid_gf256.proofs.FieldLaws.{product-lt, product-one_l, product_comm, product_assoc, product-add_r, inverse, inverse-lt, product-inverse, log_of, log_of-is, power-cycle, power-injective}

pub is_field : IsField
is_field = record {
  modulo = product-modulo;
  closed = λ a b ha hb. product-lt a b hb;
  one = product-one_l;
  commutes = product_comm;
  associates = product_assoc;
  distributes = product-add_r;
  inverse = λ a h p. (inverse a, inverse-lt a, product-inverse a h p);
  generates = λ a h p. (log_of a, (log_of-is a h p).below, (log_of-is a h p).value);
  cycle = power-cycle;
  order = power-injective;
}

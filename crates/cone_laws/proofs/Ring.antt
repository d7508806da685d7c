-- The ring of integers, passed on.
pub use Rattle.row_core.proofs.Ring.{mul_comm, mul_assoc, mul_left_comm, mul-add, add-mul, neg-mul, mul-neg, ring, zero-mul, mul-zero, one-mul, mul-at_least_zero, mul-positive, mul-negative, by_sign, at_least_zero_or_not, same_or_not, at_least_zero_of_mul, positive_of_mul, zero_of_mul, magnitude_positive, square_positive}

-- What is printed of the same sets says one set.
use Rattle.std.proofs.Common.{◌∙◌}
use Rattle.soundness.specs.Points.{PointSet}
use Rattle.run_laws.specs.Allowed.{AreSame, PrintsSayOne}
use Rattle.run_laws.proofs.AllowedSets.{via, moved, same_back, texts_make_one}

same_on : (p q r : PointSet) → AreSame p q → AreSame q r → AreSame p r
same_on p q r one other = record {
  alike = record { kind = one.alike.kind ∙ other.alike.kind; variables = one.alike.variables ∙ other.alike.variables };
  points = λ v is. via (one.points v is) (other.points v (moved p.cons.dim q.cons.dim v one.alike.variables is));
}

-- the sets are as two that are the same
same_between : (s t x y : PointSet) → AreSame s t → AreSame s x → AreSame t y → AreSame x y
same_between s t x y same one other = same_on x s y (same_back s x one) (same_on s t y same other)

pub prints_say_one : PrintsSayOne
prints_say_one = record {
  constraints = λ s t x y reply other same a b c d e f.
      same_between s t x y same (texts_make_one.constraints s.nnc s.cons.dim a.text a.text s x a.is c e)
      (texts_make_one.constraints t.nnc t.cons.dim b.text b.text t y b.is d f);
  generators = λ s t x y reply other same a b c d e f.
      same_between s t x y same (texts_make_one.generators s.nnc s.cons.dim a.text a.text s x a.is c e)
      (texts_make_one.generators t.nnc t.cons.dim b.text b.text t y b.is d f);
}

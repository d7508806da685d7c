-- What a text says is what the pass over it gives.
use Rattle.std.proofs.Common.{◌≡◌, ℕ, List, subst, Result, Ok, Err}
use Rattle.std.specs.Prelude.{ℤ, MatchResult}
use Rattle.grammar.specs.Form.{Form, Matches}
use Rattle.grammar.specs.Grammar.{alone}
use Rattle.grammar.specs.Cases.{expr_cases, frac_cases, con_cases, cons_cases, point_cases}
use Rattle.term_text.specs.declared.terms.ValueErr.{ValueErr}
use Rattle.term_text.specs.declared.texts.Frac.{Frac}
use Rattle.term_text.specs.declared.cons.OneCon.{OneCon}
use Rattle.cons_sys.specs.Constraints.{Constraints}
use Rattle.term_text.specs.Systems.{IsConOf, IsCon, IsConFault, IsConsOf, IsConsOfFault, IsCons, IsConsFault}
use Rattle.term_text.specs.Reading.{start, terms_read, con_read, ratio_read, cons_read}
use Rattle.term_text.specs.Values.{expr_by, frac_by, point_by, con_by, cons_by, alone_by}
use Rattle.term_text.specs.Texts.{Says, IsRowOf, IsRowOfFault, IsFracOf, IsPointOf, IsRatioFault, IsExpr, IsExprFault, IsFrac, IsFracFault, IsPoint, IsPointFault}
use Rattle.term_text.proofs.TextLaws.{alone_expr_law, alone_frac_law, alone_point_law, alone_con_law}
use Rattle.term_text.proofs.ListLaws.{alone_cons_law}

module _ {A V E : Type 0} (f : Form) (by : (w : List ℕ) → Matches f w → A) (text : List ℕ) (x : A) (P : A → V → Type 0) (Q : A → E → Type 0) where
  -- a result for what was read is a result for what the text says
  pub says_result : (r : Result V E) → (m : Matches (alone f) text) → x ≡ alone_by f by text m → MatchResult r (P x) (Q x) → MatchResult r (λ v. Says f by text (λ a. P a v)) (λ e. Says f by text (λ a. Q a e))
  says_result (Ok v) m e is = record { form = m; holds = subst (λ (a : A). P a v) e is }
  says_result (Err v) m e is = record { form = m; holds = subst (λ (a : A). Q a v) e is }

pub expr_says : (dim : ℕ) (text : List ℕ) (r : Result (List ℤ) ValueErr) → Matches (alone expr_cases) text → MatchResult r (IsRowOf dim (terms_read start text)) (IsRowOfFault dim (terms_read start text)) → MatchResult r (IsExpr dim text) (IsExprFault dim text)
expr_says dim text r m is = says_result expr_cases expr_by text (terms_read start text) (λ ts row. IsRowOf dim ts row) (λ ts e. IsRowOfFault dim ts e) r m (alone_expr_law text m) is

pub frac_says : (dim : ℕ) (text : List ℕ) (r : Result Frac ValueErr) → Matches (alone frac_cases) text → MatchResult r (λ v. IsFracOf dim (ratio_read text) v.expr v.den) (IsRatioFault dim (ratio_read text)) → MatchResult r (λ v. IsFrac dim text v.expr v.den) (IsFracFault dim text)
frac_says dim text r m is = says_result frac_cases frac_by text (ratio_read text) (λ q v. IsFracOf dim q v.expr v.den) (λ q e. IsRatioFault dim q e) r m (alone_frac_law text m) is

pub point_says : (dim : ℕ) (text : List ℕ) (r : Result (List ℤ) ValueErr) → Matches (alone point_cases) text → MatchResult r (IsPointOf dim (ratio_read text)) (IsRatioFault dim (ratio_read text)) → MatchResult r (IsPoint dim text) (IsPointFault dim text)
point_says dim text r m is = says_result point_cases point_by text (ratio_read text) (λ q row. IsPointOf dim q row) (λ q e. IsRatioFault dim q e) r m (alone_point_law text m) is

pub con_says : (dim : ℕ) (text : List ℕ) (r : Result OneCon ValueErr) → Matches (alone con_cases) text → MatchResult r (λ v. IsConOf dim (con_read text) v.row v.kind) (IsRowOfFault dim (con_read text).terms) → MatchResult r (λ v. IsCon dim text v.row v.kind) (IsConFault dim text)
con_says dim text r m is = says_result con_cases con_by text (con_read text) (λ c v. IsConOf dim c v.row v.kind) (λ c e. IsRowOfFault dim c.terms e) r m (alone_con_law text m) is

pub cons_says : (dim : ℕ) (text : List ℕ) (r : Result Constraints ValueErr) → Matches (alone cons_cases) text → MatchResult r (IsConsOf dim (cons_read text)) (IsConsOfFault dim (cons_read text)) → MatchResult r (IsCons dim text) (IsConsFault dim text)
cons_says dim text r m is = says_result cons_cases cons_by text (cons_read text) (λ cs system. IsConsOf dim cs system) (λ cs e. IsConsOfFault dim cs e) r m (alone_cons_law text m) is

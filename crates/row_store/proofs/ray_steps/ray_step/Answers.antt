use Rattle.std.specs.Prelude.{◌≡◌, ◌++◌, ℕ, List, false, true}
use Rattle.std.proofs.Common.{sym, ap, ◌∙◌, arith, length, replicate, take, length-append}
use Rattle.std.proofs.lemmas.List.{take_at, length-replicate}
use Rattle.std.proofs.lemmas.List.Elements.{All-same}
use Rattle.row_core.specs.Lists.{Row}
use Rattle.flat_rows.proofs.Marked.{all_marked}
use Rattle.row_store.specs.Vectors.{Vectors}
use Rattle.row_store.proofs.ChangeLemmas.{kept_change}
use Rattle.row_store.proofs.ray_steps.ray_step.Goals as goal

pub keep_rows-requires : goal.keep_rows-requires
keep_rows-requires g c =
    let h = c.in_default.ensures.made in
    omega (arith, ap length h.result, h.is_made.as_many, length-append c.args.rays.now.rows h.made, c.requires.marks)

pub returns-clause-change : goal.returns-clause-change
returns-clause-change g c = λ marks is_keep.
    let h = c.in_default.ensures.made in
    let size : length marks ≡ length c.args.rays.now.rows = omega (arith, ap length is_keep, length-append marks (replicate (length c.args.pairs.now) true), length-replicate (length c.args.pairs.now) true, c.requires.marks) in
    record {
      made = h.made;
      is_made = h.is_made;
      result = kept_change marks c.args.rays.now.rows h.made c.push_made.new.rays.rows c.keep_rows.new.self.rows c.args.keep.now (length c.args.pairs.now) size h.is_made.as_many h.result is_keep c.keep_rows.ensures.rows;
    }

pub returns-clause-marked : goal.returns-clause-marked
returns-clause-marked g c =
    All-same (λ (row : Row). row.1 ≡ false) c.keep_rows.new.self.rows _ c.keep_rows.ensures.rows (all_marked (λ (row : Row). row.1 ≡ false) c.args.keep.now c.push_made.new.rays.rows c.push_made.ensures.marked)

pub truncate-requires : goal.truncate-requires
truncate-requires g c =
    let grown = c.push_made.ensures.grown in
    omega (arith, c.len-count.ensures, ap length grown.1, length-append c.args.rays.now.rows grown.0)

rows_back : (old more cur new : List Row) (count : ℕ) → count ≡ length old → cur ≡ old ++ more → new ≡ take count cur → new ≡ old
rows_back old more cur new count is grown taken = taken ∙ ap (λ (rs : List Row). take count rs) grown ∙ take_at old more count (sym is)

pub returns-in-Err-clause-same : goal.returns-in-Err-clause-same
returns-in-Err-clause-same g c =
    let grown = c.push_made.ensures.grown in
    record {
      width = ap (λ (l : Vectors). l.width) c.truncate.ensures ∙ c.push_made.ensures.width;
      rows = rows_back c.args.rays.now.rows grown.0 c.push_made.new.rays.rows c.truncate.new.self.rows c.len-count.result c.len-count.ensures grown.1 (ap (λ (l : Vectors). l.rows) c.truncate.ensures);
    }

pub returns-in-Err-clause-marked : goal.returns-in-Err-clause-marked
returns-in-Err-clause-marked g c =
    let grown = c.push_made.ensures.grown in
    All-same (λ (row : Row). row.1 ≡ false) c.truncate.new.self.rows c.args.rays.now.rows (rows_back c.args.rays.now.rows grown.0 c.push_made.new.rays.rows c.truncate.new.self.rows c.len-count.result c.len-count.ensures grown.1 (ap (λ (l : Vectors). l.rows) c.truncate.ensures)) c.requires.marked

pub returns-clause-width : goal.returns-clause-width
returns-clause-width g c = c.keep_rows.ensures.width ∙ c.push_made.ensures.width

pub returns-in-Err-clause-width : goal.returns-in-Err-clause-width
returns-in-Err-clause-width g c = ap (λ (l : Vectors). l.width) c.truncate.ensures ∙ c.push_made.ensures.width

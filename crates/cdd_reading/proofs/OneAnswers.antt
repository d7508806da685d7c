-- A file is read as one list, or refused for one fault.
use Rattle.std.proofs.Common.{◌≡◌, ℕ, ◌+◌, ◌<◌, List, [], ◌∷◌, ◌++◌, length, refl, sym, ◌∙◌, ap, subst, arith, inl, inr, ◌⊎◌, Bool, append_assoc}
use Rattle.std.specs.Prelude.{All, ℤ, pos, ◌<ℤ◌}
use Rattle.std.specs.List.{AllZip}
use Rattle.std.proofs.lemmas.Int.{ints}
use Rattle.std.proofs.lemmas.List.Elements.{All-head}
use Rattle.row_core.specs.Vectors.{cell}
use Rattle.row_core.specs.Lists.{Row}
use Rattle.row_core.proofs.OnePrimitive.{IsPrimitiveOf-once}
use Rattle.cons_sys.specs.Constraints.{Constraint, Constraints}
use Rattle.gens_sys.specs.Generators.{Generator, Generators}
use Rattle.gens_sys.specs.declared.kind.GenKind.{GenKind}
use Rattle.gens_sys.specs.declared.kind.GenKind.TheVariants.{Line, Ray, Point, ClosurePoint}
use Rattle.reply_text.specs.declared.faults.Fault.{Fault}
use Rattle.reply_text.specs.declared.faults.Fault.TheVariants as fault
use Rattle.cdd_reading.specs.Tokens.{Token, texts, numbered}
use Rattle.cdd_reading.specs.Headings.{HasNoHead}
use Rattle.cdd_reading.specs.Bodies.{HasNoSizes, HasNoBody}
use Rattle.cdd_reading.specs.Files.{Contents, AreRows, turned, IsRowOf, IsVectorOf, IsKind, IsIneFile, IsExtFile, with_origin}
use Rattle.cdd_reading.specs.Refusals.{Test, IsFirstOf, NoneOf, OfFile, OfTokens, bad_row, IsVectorFault, HaveNoFault, IsRowsFault, tests}
use Rattle.cdd_reading.specs.declared.format.Format.{Format}
use Rattle.cdd_reading.specs.declared.format.Format.TheVariants.{Ine, Ext}
use Rattle.cdd_reading.proofs.ListLaws.{All-inside}
use Rattle.cdd_reading.proofs.OneFiles.{contents_once, of_file, of_tokens, of_contents}
use Rattle.cdd_reading.proofs.OneHeads.{Cuts, two_cuts, head_excludes, line_once}
use Rattle.cdd_reading.proofs.OneBodies.{token_once}
use Rattle.cdd_reading.proofs.OneRows.{rows_once}

-- lists
same_pair : {K : Type 0} (c d : List ℤ × K) → c.0 ≡ d.0 → c.1 ≡ d.1 → c ≡ d
same_pair {K} (u, k) (v, l) e f = ap (λ (x : List ℤ). (x, k)) e ∙ ap (λ (x : K). (v, x)) f

constraints_once : (rows : List Row) (a b : List Constraint) → AllZip IsRowOf rows a → AllZip IsRowOf rows b → a ≡ b
constraints_once [] [] [] h k = refl
constraints_once [] [] (d ∷ b) h k = absurd k
constraints_once [] (c ∷ a) b h k = absurd h
constraints_once (r ∷ rows) [] b h k = absurd h
constraints_once (r ∷ rows) (c ∷ a) [] h k = absurd k
constraints_once (r ∷ rows) (c ∷ a) (d ∷ b) (h, hs) (k, ks) =
    ap (λ (x : Constraint). x ∷ a) (same_pair c d (IsPrimitiveOf-once (turned r.0) c.0 d.0 h.0 k.0) (h.1 ∙ sym k.1))
    ∙ ap (λ (l : List Constraint). d ∷ l) (constraints_once rows a b hs ks)

kind_once : (m : Bool) (t : ℤ) (k l : GenKind) → IsKind m t k → IsKind m t l → k ≡ l
kind_once m t Line Line h g = refl
kind_once m t Line Ray (z, e) (y, f) = cc
kind_once m t Line Point (z, e) (p, f) = cc
kind_once m t Line ClosurePoint h g = absurd g
kind_once m t Ray Line (z, e) (y, f) = cc
kind_once m t Ray Ray h g = refl
kind_once m t Ray Point (z, e) (p, f) = absurd (omega (arith, ints))
kind_once m t Ray ClosurePoint h g = absurd g
kind_once m t Point Line (p, e) (y, f) = cc
kind_once m t Point Ray (p, e) (y, f) = absurd (omega (arith, ints))
kind_once m t Point Point h g = refl
kind_once m t Point ClosurePoint h g = absurd g
kind_once m t ClosurePoint l h g = absurd h

vectors_once : (rows : List Row) (a b : List Generator) → AllZip IsVectorOf rows a → AllZip IsVectorOf rows b → a ≡ b
vectors_once [] [] [] h k = refl
vectors_once [] [] (d ∷ b) h k = absurd k
vectors_once [] (c ∷ a) b h k = absurd h
vectors_once (r ∷ rows) [] b h k = absurd h
vectors_once (r ∷ rows) (c ∷ a) [] h k = absurd k
vectors_once (r ∷ rows) (c ∷ a) (d ∷ b) (h, hs) (k, ks) =
    ap (λ (x : Generator). x ∷ a) (same_pair c d (IsPrimitiveOf-once (turned r.0) c.0 d.0 h.0 k.0) (kind_once r.1 (cell r.0 0) c.1 d.1 h.1 k.1))
    ∙ ap (λ (l : List Generator). d ∷ l) (vectors_once rows a b hs ks)

one_less : (m n x y : ℕ) → x ≡ m + 1 → y ≡ n + 1 → x ≡ y → m ≡ n
one_less m n x y e f g = omega arith

same_constraints : (a b : Constraints) → a.dim ≡ b.dim → a.list ≡ b.list → a ≡ b
same_constraints a b e f = ap (λ (n : ℕ). record { dim = n; list = a.list }) e ∙ ap (λ (l : List Constraint). record { dim = b.dim; list = l }) f

pub ine_once : (bytes : List ℕ) (a b : Constraints) → IsIneFile bytes a → IsIneFile bytes b → a ≡ b
ine_once bytes a b p q =
    let e = contents_once bytes p.contents q.contents p.says q.says in
    let rows = rows_once q.contents p.rows q.rows (subst (λ (c : Contents). AreRows c p.rows) e p.are_rows) q.are_rows in
    same_constraints a b (one_less a.dim b.dim p.contents.sizes.columns q.contents.sizes.columns p.over q.over (ap (λ (c : Contents). c.sizes.columns) e)) (constraints_once q.rows a.list b.list (subst (λ (l : List Row). AllZip IsRowOf l a.list) rows p.each) q.each)

same_generators : (a b : Generators) → a.dim ≡ b.dim → a.list ≡ b.list → a ≡ b
same_generators a b e f = ap (λ (n : ℕ). record { dim = n; list = a.list }) e ∙ ap (λ (l : List Generator). record { dim = b.dim; list = l }) f

pub ext_once : (bytes : List ℕ) (a b : Generators) → IsExtFile bytes a → IsExtFile bytes b → a ≡ b
ext_once bytes a b p q =
    let e = contents_once bytes p.contents q.contents p.says q.says in
    let rows = rows_once q.contents p.rows q.rows (subst (λ (c : Contents). AreRows c p.rows) e p.are_rows) q.are_rows in
    let dim = one_less a.dim b.dim p.contents.sizes.columns q.contents.sizes.columns p.over q.over (ap (λ (c : Contents). c.sizes.columns) e) in
    let given = vectors_once q.rows p.given q.given (subst (λ (l : List Row). AllZip IsVectorOf l p.given) rows p.each) q.each in
    same_generators a b dim (p.list ∙ ap (λ (n : ℕ). with_origin n p.given) dim ∙ ap (λ (l : List Generator). with_origin b.dim l) given ∙ sym q.list)

-- faults
abbrev FindsOne : Test → Type 0
FindsOne test = (f g : Fault) → test f → test g → f ≡ g

abbrev FindOne : List Test → Type 0
FindOne [] = Unit {0}
FindOne (test ∷ ts) = FindsOne test × FindOne ts

first_once : (ts : List Test) → FindOne ts → (f g : Fault) → IsFirstOf ts f → IsFirstOf ts g → f ≡ g
first_once [] one f g h k = absurd h
first_once (test ∷ ts) (one, more) f g (inl h) (inl k) = one f g h k
first_once (test ∷ ts) (one, more) f g (inl h) (inr (none, k)) = absurd (none f h)
first_once (test ∷ ts) (one, more) f g (inr (none, h)) (inl k) = absurd (none g k)
first_once (test ∷ ts) (one, more) f g (inr (none, h)) (inr (none2, k)) = first_once ts more f g h k

few_texts : (ts : List Token) (m d t : List ℕ) (numbers : List (List ℕ)) → length ts < 3 → texts ts ≡ m ∷ d ∷ t ∷ numbers → ⊥
few_texts [] m d t numbers h e = cc
few_texts (x ∷ []) m d t numbers h e = cc
few_texts (x ∷ y ∷ []) m d t numbers h e = cc
few_texts (x ∷ y ∷ z ∷ ts) m d t numbers h e = omega arith

-- a file without sizes has no body
sizes_within : (ts : List Token) (end at : ℕ) → HasNoSizes ts end at → HasNoBody ts end at
sizes_within ts end at (inl (before, few, w)) = inl (before, w)
sizes_within ts end at (inr (can, few, e)) = inr (can, λ s numbers b. few_texts ts b.m b.d b.t numbers few b.tokens, e)

sizes_once : (bytes : List ℕ) (n m : ℕ) → OfFile bytes (λ file. HasNoHead file n) ⊎ OfTokens bytes (λ ts end. HasNoSizes ts end n) → OfFile bytes (λ file. HasNoHead file m) ⊎ OfTokens bytes (λ ts end. HasNoSizes ts end m) → n ≡ m
sizes_once bytes n m (inl (file, rest, p, h)) (inl v) = line_once file n m h (of_file (λ l. HasNoHead l m) bytes file rest p v)
sizes_once bytes n m (inl w) (inr (file, rest, p, (h, before, behind, q, s))) = absurd (head_excludes file h before behind n q (of_file (λ l. HasNoHead l n) bytes file rest p w))
sizes_once bytes n m (inr (file, rest, p, (h, before, behind, q, s))) (inl v) = absurd (head_excludes file h before behind m q (of_file (λ l. HasNoHead l m) bytes file rest p v))
sizes_once bytes n m (inr (file, rest, p, (h, before, behind, q, s))) (inr v) =
    let ts = numbered (length before + 2) behind in
    let t = of_tokens (λ ts end. HasNoSizes ts end m) bytes file rest h before behind p q v in
    token_once ts (length file + 1) n m (sizes_within ts (length file + 1) n s) (sizes_within ts (length file + 1) m t)

body_once : (bytes : List ℕ) (n m : ℕ) → OfTokens bytes (λ ts end. HasNoBody ts end n) → OfTokens bytes (λ ts end. HasNoBody ts end m) → n ≡ m
body_once bytes n m (file, rest, p, (h, before, behind, q, s)) v = token_once (numbered (length before + 2) behind) (length file + 1) n m s (of_tokens (λ ts end. HasNoBody ts end m) bytes file rest h before behind p q v)

-- a row has one fault
abbrev Which : List ℤ → Fault → Type 0
Which row f = ((f ≡ fault.NegativeFirst) × (cell row 0 <ℤ pos 0)) ⊎ (((f ≡ fault.LinearityOnVertex) × (pos 0 <ℤ cell row 0)) ⊎ ((f ≡ fault.ZeroVector) × (cell row 0 ≡ pos 0)))

zero_first : (row : List ℤ) → All (λ z. z ≡ pos 0) row → cell row 0 ≡ pos 0
zero_first [] h = refl
zero_first (z ∷ row) h = All-head (λ z. z ≡ pos 0) z row h

which : (m : Bool) (row : List ℤ) (f : Fault) → IsVectorFault m row f → Which row f
which m row fault.NegativeFirst h = inl (refl, h)
which m row fault.LinearityOnVertex (h, e) = inr (inl (refl, h))
which m row fault.ZeroVector h = inr (inr (refl, zero_first row h))
which m row f h = absurd h

which_once : (row : List ℤ) (f g : Fault) → Which row f → Which row g → f ≡ g
which_once row f g (inl (e, h)) (inl (d, k)) = e ∙ sym d
which_once row f g (inl (e, h)) (inr (inl (d, k))) = absurd (omega (arith, ints))
which_once row f g (inl (e, h)) (inr (inr (d, k))) = absurd (omega (arith, ints))
which_once row f g (inr (inl (e, h))) (inl (d, k)) = absurd (omega (arith, ints))
which_once row f g (inr (inl (e, h))) (inr (inl (d, k))) = e ∙ sym d
which_once row f g (inr (inl (e, h))) (inr (inr (d, k))) = absurd (omega (arith, ints))
which_once row f g (inr (inr (e, h))) (inl (d, k)) = absurd (omega (arith, ints))
which_once row f g (inr (inr (e, h))) (inr (inl (d, k))) = absurd (omega (arith, ints))
which_once row f g (inr (inr (e, h))) (inr (inr (d, k))) = e ∙ sym d

faultless_front : (a r : List Row) (x : Row) (f : Fault) → HaveNoFault ((a ++ x ∷ []) ++ r) → IsVectorFault x.1 x.0 f → ⊥
faultless_front a r x f h is = All-inside (λ (row : Row). (g : Fault) → ¬ (IsVectorFault row.1 row.0 g)) a x r (subst (λ (l : List Row). HaveNoFault l) (append_assoc a (x ∷ []) r) h) f is

row_cases : (a b c d : List Row) (x y : Row) (f g : Fault) → HaveNoFault a → HaveNoFault c → IsVectorFault x.1 x.0 f → IsVectorFault y.1 y.0 g → Cuts a x b c y d → f ≡ g
row_cases a b c d x y f g h k is also (inl (e, i, j)) = which_once y.0 f g (which y.1 y.0 f (subst (λ (r : Row). IsVectorFault r.1 r.0 f) i is)) (which y.1 y.0 g also)
row_cases a b c d x y f g h k is also (inr (inl (r, e))) = absurd (faultless_front a r x f (subst (λ (l : List Row). HaveNoFault l) e k) is)
row_cases a b c d x y f g h k is also (inr (inr (r, e))) = absurd (faultless_front c r y g (subst (λ (l : List Row). HaveNoFault l) e h) also)

row_fault_once : (rows : List Row) (f g : Fault) → IsRowsFault rows f → IsRowsFault rows g → f ≡ g
row_fault_once rows f g v w = row_cases v.before v.first.behind w.before w.first.behind v.row w.row f g v.first.right w.first.right v.is w.is (two_cuts v.before v.first.behind w.before w.first.behind v.row w.row (sym v.first.cut ∙ w.first.cut))

bad_row_once : (bytes : List ℕ) → FindsOne (bad_row bytes)
bad_row_once bytes f g (c, says, (rows, are, w)) k =
    let (others, also, v) = of_contents (λ c. (rows : List Row) × AreRows c rows × IsRowsFault rows g) bytes c says k in
    row_fault_once rows f g w (subst (λ (l : List Row). IsRowsFault l g) (rows_once c others rows also are) v)

find_one : (want : Format) (bytes : List ℕ) → FindOne (tests want bytes)
find_one Ine bytes = (
  λ f g (e, h) (d, k). e ∙ sym d,
  (
    λ f g (e, h) (d, k). e ∙ sym d,
    (
      λ f g (n, e, h) (m, d, k). e ∙ ap fault.CddSyntax (sizes_once bytes n m h k) ∙ sym d,
      (
        λ f g (e, h) (d, k). e ∙ sym d,
        (
          λ f g (n, e, h) (m, d, k). e ∙ ap fault.CddSyntax (body_once bytes n m h k) ∙ sym d,
          (λ f g (e, h) (d, k). e ∙ sym d, (λ f g (e, h) (d, k). e ∙ sym d, (λ f g (e, h) (d, k). e ∙ sym d, (λ f g (e, h) (d, k). e ∙ sym d, (λ f g (e, h) (d, k). e ∙ sym d, tt))))),
        ),
      ),
    ),
  ),
)
find_one Ext bytes = (
  λ f g (e, h) (d, k). e ∙ sym d,
  (
    λ f g (e, h) (d, k). e ∙ sym d,
    (
      λ f g (n, e, h) (m, d, k). e ∙ ap fault.CddSyntax (sizes_once bytes n m h k) ∙ sym d,
      (
        λ f g (e, h) (d, k). e ∙ sym d,
        (
          λ f g (n, e, h) (m, d, k). e ∙ ap fault.CddSyntax (body_once bytes n m h k) ∙ sym d,
          (λ f g (e, h) (d, k). e ∙ sym d, (λ f g (e, h) (d, k). e ∙ sym d, (λ f g (e, h) (d, k). e ∙ sym d, (λ f g (e, h) (d, k). e ∙ sym d, (λ f g (e, h) (d, k). e ∙ sym d, (bad_row_once bytes, tt)))))),
        ),
      ),
    ),
  ),
)

pub fault_once : (want : Format) (bytes : List ℕ) (f g : Fault) → IsFirstOf (tests want bytes) f → IsFirstOf (tests want bytes) g → f ≡ g
fault_once want bytes f g h k = first_once (tests want bytes) (find_one want bytes) f g h k

none_first : (ts : List Test) (f : Fault) → NoneOf ts → IsFirstOf ts f → ⊥
none_first [] f none h = h
none_first (test ∷ ts) f (none, more) (inl h) = none f h
none_first (test ∷ ts) f (none, more) (inr (here, h)) = none_first ts f more h

pub passes_or_fails : (want : Format) (bytes : List ℕ) (f : Fault) → NoneOf (tests want bytes) → IsFirstOf (tests want bytes) f → ⊥
passes_or_fails want bytes f none h = none_first (tests want bytes) f none h

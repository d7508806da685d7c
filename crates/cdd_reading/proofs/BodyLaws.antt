-- What tokens can begin a body.
use Rattle.std.proofs.Common.{◌≡◌, ℕ, ◌+◌, ◌-◌, ◌*◌, ◌^◌, ◌<◌, ◌≤◌, List, [], ◌∷◌, ◌++◌, length, ◌≢◌, refl, sym, ◌∙◌, ap, subst, arith, true, false, inl, inr, ◌⊎◌, length-append, codes, zero, suc, min, drop, get_or}
use Rattle.std.specs.List.{list_all}
use Rattle.std.proofs.lemmas.List.Folds.{list_all-append}
use Rattle.std.proofs.lemmas.Bool.{and_from, and_parts}
use Rattle.cdd_reading.specs.Tokens.{texts, Token}
use Rattle.plain_text.specs.Digits.{is_nat, number}
use Rattle.cdd_reading.specs.Bodies.{type_word, is_number, Sizes, AreSizes, IsBody, CanBody, HasNoSizes, HasNoBody, AreRead, HasType, IsBodyRead, ArentNumbers, AreNumbers}
use Rattle.cdd_reading.specs.declared.format.NumberType.{NumberType}
use Rattle.cdd_reading.specs.declared.format.NumberType.TheVariants.{Integer, Rational, Real}
use Rattle.cdd_reading.proofs.OneBodies.{one_type}

-- so many zeros
zeros : ℕ → List (List ℕ)
zeros zero = []
zeros (suc n) = codes "0" ∷ zeros n

zeros-length : (n : ℕ) → length (zeros n) ≡ n
unfolding zeros
zeros-length zero = refl
zeros-length (suc n) = ap suc (zeros-length n)

zero_number : (t : NumberType) → is_number t (codes "0") ≡ true
zero_number Integer = refl
zero_number Rational = refl
zero_number Real = refl

zeros-numbers : (t : NumberType) (n : ℕ) → list_all (is_number t) (zeros n) ≡ true
unfolding zeros
zeros-numbers t zero = refl
zeros-numbers t (suc n) = and_from (is_number t (codes "0")) (list_all (is_number t) (zeros n)) (zero_number t) (zeros-numbers t n)

all_both : (t : NumberType) (xs ys : List (List ℕ)) → list_all (is_number t) xs ≡ true → list_all (is_number t) ys ≡ true → list_all (is_number t) (xs ++ ys) ≡ true
all_both t xs ys e f = list_all-append (is_number t) xs ys ∙ and_from (list_all (is_number t) xs) (list_all (is_number t) ys) e f

inside : (t : NumberType) (done : List (List ℕ)) (x : List ℕ) (more : List (List ℕ)) → list_all (is_number t) ((done ++ x ∷ []) ++ more) ≡ true → is_number t x ≡ true
inside t [] x more e = (and_parts (is_number t x) (list_all (is_number t) more) e).0
inside t (y ∷ done) x more e = inside t done x more (and_parts (is_number t y) (list_all (is_number t) ((done ++ x ∷ []) ++ more)) e).1

-- numbers that there is room for can go on
pub can_go_on : (m d t : List ℕ) (s : Sizes) (done : List (List ℕ)) → AreSizes m d t s → list_all (is_number s.number_type) done ≡ true → length done ≤ s.rows * s.columns → CanBody (m ∷ d ∷ t ∷ done)
can_go_on m d t s done sizes forms room =
    let k = s.rows * s.columns - length done in
    let l = length-append done (zeros k) in
    let z = zeros-length k in (
      zeros k,
      s,
      done ++ zeros k,
      record {
        m = m;
        d = d;
        t = t;
        tokens = refl;
        sizes = sizes;
        forms = all_both s.number_type done (zeros k) forms (zeros-numbers s.number_type k);
        count = omega (arith, l, z, room);
      },
    )

-- behind the sizes a number of their type stands
pub no_number : (m d t : List ℕ) (s : Sizes) (done : List (List ℕ)) (x : List ℕ) → AreSizes m d t s → is_number s.number_type x ≡ false → ¬ (CanBody (m ∷ d ∷ t ∷ (done ++ x ∷ [])))
no_number m d t s done x sizes e (more, z, numbers, b) =
    let same : ((done ++ x ∷ []) ++ more) ≡ numbers = ap (λ (l : List (List ℕ)). drop 3 l) b.tokens in
    let third : t ≡ b.t = ap (λ (l : List (List ℕ)). get_or l 2 []) b.tokens in
    let ty : s.number_type ≡ z.number_type = one_type s.number_type z.number_type (sym sizes.number_type ∙ third ∙ b.sizes.number_type) in
    let yes : is_number z.number_type x ≡ true = inside z.number_type done x more (ap (λ (l : List (List ℕ)). list_all (is_number z.number_type) l) same ∙ b.forms) in
    let wrong : true ≡ false = sym yes ∙ ap (λ (k : NumberType). is_number k x) (sym ty) ∙ e in cc

same_size : (m d t bm bd bt : List ℕ) (xs ys : List (List ℕ)) (s z : Sizes) → AreSizes m d t s → AreSizes bm bd bt z → (m ∷ d ∷ t ∷ xs) ≡ (bm ∷ bd ∷ bt ∷ ys) → s.rows * s.columns ≡ z.rows * z.columns
same_size m d t bm bd bt xs ys s z a b e =
    let first : m ≡ bm = ap (λ (l : List (List ℕ)). get_or l 0 []) e in
    let second : d ≡ bd = ap (λ (l : List (List ℕ)). get_or l 1 []) e in
    let rows : s.rows ≡ z.rows = a.rows ∙ ap (λ w. number w) first ∙ sym b.rows in
    let columns : s.columns ≡ z.columns = a.columns ∙ ap (λ w. number w) second ∙ sym b.columns in
    ap (λ n. n * s.columns) rows ∙ ap (λ n. z.rows * n) columns

-- no token stands behind the last number
pub no_room : (m d t : List ℕ) (s : Sizes) (done : List (List ℕ)) (x : List ℕ) → AreSizes m d t s → length done ≡ s.rows * s.columns → ¬ (CanBody (m ∷ d ∷ t ∷ (done ++ x ∷ [])))
no_room m d t s done x sizes full (more, z, numbers, b) =
    let same : ((done ++ x ∷ []) ++ more) ≡ numbers = ap (λ (l : List (List ℕ)). drop 3 l) b.tokens in
    let size : s.rows * s.columns ≡ z.rows * z.columns = same_size m d t b.m b.d b.t ((done ++ x ∷ []) ++ more) numbers s z sizes b.sizes b.tokens in
    let long : length ((done ++ x ∷ []) ++ more) ≡ z.rows * z.columns = ap (λ (l : List (List ℕ)). length l) same ∙ b.count in
    let l1 = length-append (done ++ x ∷ []) more in
    let l2 = length-append done (x ∷ []) in
    absurd (omega (arith, size, long, l1, l2, full))

-- with too few numbers it is no body
pub too_few : (m d t : List ℕ) (s : Sizes) (done : List (List ℕ)) → AreSizes m d t s → length done < s.rows * s.columns → (z : Sizes) (numbers : List (List ℕ)) → ¬ (IsBody (m ∷ d ∷ t ∷ done) z numbers)
too_few m d t s done sizes few z numbers b =
    let same : done ≡ numbers = ap (λ (l : List (List ℕ)). drop 3 l) b.tokens in
    let size : s.rows * s.columns ≡ z.rows * z.columns = same_size m d t b.m b.d b.t done numbers s z sizes b.sizes b.tokens in
    let long : length done ≡ z.rows * z.columns = ap (λ (l : List (List ℕ)). length l) same ∙ b.count in
    absurd (omega (arith, size, long, few))

-- the first three tokens
some_size : (d : List ℕ) → is_nat d ≡ true → 0 < number d → AreSizes (codes "0") d (codes "integer") (record { rows = 0; columns = number d; number_type = Integer })
some_size d e h = record { rows_form = refl; rows = refl; columns_form = e; columns = refl; positive = h; number_type = refl }

pub can_nothing : CanBody []
can_nothing = (codes "0" ∷ codes "1" ∷ codes "integer" ∷ [], record { rows = 0; columns = 1; number_type = Integer }, [], record { m = codes "0"; d = codes "1"; t = codes "integer"; tokens = refl; sizes = some_size (codes "1") refl (omega arith); forms = refl; count = refl })

pub can_rows : (m : List ℕ) → is_nat m ≡ true → CanBody (m ∷ [])
can_rows m e =
    let k = number m * 1 in (
      codes "1" ∷ codes "integer" ∷ zeros k,
      record { rows = number m; columns = 1; number_type = Integer },
      zeros k,
      record {
        m = m;
        d = codes "1";
        t = codes "integer";
        tokens = refl;
        sizes = record { rows_form = e; rows = refl; columns_form = refl; columns = refl; positive = omega arith; number_type = refl };
        forms = zeros-numbers Integer k;
        count = zeros-length k;
      },
    )

pub can_columns : (m d : List ℕ) → is_nat m ≡ true → is_nat d ≡ true → 0 < number d → CanBody (m ∷ d ∷ [])
can_columns m d e f h =
    let k = number m * number d in (
      codes "integer" ∷ zeros k,
      record { rows = number m; columns = number d; number_type = Integer },
      zeros k,
      record {
        m = m;
        d = d;
        t = codes "integer";
        tokens = refl;
        sizes = record { rows_form = e; rows = refl; columns_form = f; columns = refl; positive = h; number_type = refl };
        forms = zeros-numbers Integer k;
        count = zeros-length k;
      },
    )

pub no_rows : (m : List ℕ) → is_nat m ≡ false → ¬ (CanBody (m ∷ []))
no_rows m e (more, s, numbers, b) =
    let same : m ≡ b.m = ap (λ (l : List (List ℕ)). get_or l 0 []) b.tokens in
    let wrong : true ≡ false = sym b.sizes.rows_form ∙ ap (λ w. is_nat w) (sym same) ∙ e in cc

pub no_columns : (m d : List ℕ) → (is_nat d ≡ false) ⊎ (number d ≡ 0) → ¬ (CanBody (m ∷ d ∷ []))
no_columns m d (inl e) (more, s, numbers, b) =
    let same : d ≡ b.d = ap (λ (l : List (List ℕ)). get_or l 1 []) b.tokens in
    let wrong : true ≡ false = sym b.sizes.columns_form ∙ ap (λ w. is_nat w) (sym same) ∙ e in cc
no_columns m d (inr e) (more, s, numbers, b) =
    let same : d ≡ b.d = ap (λ (l : List (List ℕ)). get_or l 1 []) b.tokens in
    let zero_columns : s.columns ≡ 0 = b.sizes.columns ∙ ap (λ w. number w) (sym same) ∙ e in
    absurd (omega (arith, b.sizes.positive))

pub no_type : (m d t : List ℕ) → ((ty : NumberType) → ¬ (t ≡ type_word ty)) → ¬ (CanBody (m ∷ d ∷ t ∷ []))
no_type m d t e (more, s, numbers, b) =
    let same : t ≡ b.t = ap (λ (l : List (List ℕ)). get_or l 2 []) b.tokens in
    e s.number_type (same ∙ b.sizes.number_type)

-- one more number
pub texts-push : (before : List Token) (x : Token) → texts (before ++ x ∷ []) ≡ texts before ++ x.1 ∷ []
texts-push [] x = refl
texts-push (y ∷ before) x = ap (λ t. y.1 ∷ t) (texts-push before x)

pub all_more : (t : NumberType) (before : List Token) (x : Token) → list_all (is_number t) (texts before) ≡ true → is_number t x.1 ≡ true → list_all (is_number t) (texts (before ++ x ∷ [])) ≡ true
all_more t before x e f = ap (λ (l : List (List ℕ)). list_all (is_number t) l) (texts-push before x) ∙ all_both t (texts before) (x.1 ∷ []) e (and_from (is_number t x.1) true f refl)

pub one_longer : (before : List Token) (x : Token) (n : ℕ) → n ≡ length before → n + 1 ≡ length (before ++ x ∷ [])
one_longer before x n e = let k = length-append before (x ∷ []) in omega arith

-- the answers of the first three tokens
pub miss_first : (ts : List Token) (end : ℕ) → ts ≡ [] → HasNoSizes ts end end
miss_first ts end e = inr (subst (λ (l : List Token). CanBody (texts l)) (sym e) can_nothing, subst (λ (l : List Token). length l < 3) (sym e) (omega arith), refl)

pub bad_first : (ts rest : List Token) (x : Token) (end : ℕ) → ts ≡ x ∷ rest → is_nat x.1 ≡ false → HasNoSizes ts end x.0
bad_first ts rest x end e f = inl ([], omega arith, record { token = x; first = record { behind = rest; cut = e; right = can_nothing; wrong = no_rows x.1 f }; line = refl })

pub miss_second : (ts : List Token) (x : Token) (end : ℕ) → ts ≡ x ∷ [] → is_nat x.1 ≡ true → HasNoSizes ts end end
miss_second ts x end e f = inr (subst (λ (l : List Token). CanBody (texts l)) (sym e) (can_rows x.1 f), subst (λ (l : List Token). length l < 3) (sym e) (omega arith), refl)

pub bad_second : (ts rest : List Token) (x y : Token) (end : ℕ) → ts ≡ x ∷ y ∷ rest → is_nat x.1 ≡ true → (is_nat y.1 ≡ false) ⊎ (number y.1 ≡ 0) → HasNoSizes ts end y.0
bad_second ts rest x y end e f g = inl (x ∷ [], omega arith, record { token = y; first = record { behind = rest; cut = e; right = can_rows x.1 f; wrong = no_columns x.1 y.1 g }; line = refl })

pub miss_third : (ts : List Token) (x y : Token) (end : ℕ) → ts ≡ x ∷ y ∷ [] → is_nat x.1 ≡ true → is_nat y.1 ≡ true → 0 < number y.1 → HasNoSizes ts end end
miss_third ts x y end e f g h = inr (subst (λ (l : List Token). CanBody (texts l)) (sym e) (can_columns x.1 y.1 f g h), subst (λ (l : List Token). length l < 3) (sym e) (omega arith), refl)

pub bad_third : (ts rest : List Token) (x y z : Token) (end : ℕ) → ts ≡ x ∷ y ∷ z ∷ rest → is_nat x.1 ≡ true → is_nat y.1 ≡ true → 0 < number y.1 → ((t : NumberType) → ¬ (z.1 ≡ type_word t)) → HasNoSizes ts end z.0
bad_third ts rest x y z end e f g h n = inl (x ∷ y ∷ [], omega arith, record { token = z; first = record { behind = rest; cut = e; right = can_columns x.1 y.1 f g h; wrong = no_type x.1 y.1 z.1 n }; line = refl })

pub all_three : (ts rest : List Token) (x y z : Token) (m d : ℕ) (t : NumberType) → ts ≡ x ∷ y ∷ z ∷ rest → is_nat x.1 ≡ true → is_nat y.1 ≡ true → 0 < number y.1 → z.1 ≡ type_word t → m ≡ min (number x.1) (2 ^ 127) → d ≡ min (number y.1) (2 ^ 127) → (s : Sizes) × AreRead ts m d t rest s
all_three ts rest x y z m d t e f g h n a b = (
  record { rows = number x.1; columns = number y.1; number_type = t },
  record {
    first = x;
    second = y;
    third = z;
    cut = e;
    sizes = record { rows_form = f; rows = refl; columns_form = g; columns = refl; positive = h; number_type = n };
    rows = a;
    columns = b;
    number_type = refl;
  },
)

-- the product under a cap
small_min : (n c : ℕ) → n < c → min n c ≡ n
small_min n c h = grind arith

large_min : (n c : ℕ) → c ≤ n → min n c ≡ c
large_min n c h = grind arith

large_left : (a b c : ℕ) → c ≤ a → 0 < b → c ≤ a * b
large_left a zero c h p = absurd (omega arith)
large_left a (suc b) c h p = omega arith

large_right : (a b c : ℕ) → c ≤ b → 0 < a → c ≤ a * b
large_right zero b c h p = absurd (omega arith)
large_right (suc a) b c h p = omega arith

min_positive : (n c : ℕ) → 0 < n → 0 < c → 0 < min n c
min_positive n c h k = grind arith

pub zero_or : (n : ℕ) → (n ≡ 0) ⊎ (0 < n)
zero_or zero = inl refl
zero_or (suc n) = inr (omega arith)

below_step : (n c : ℕ) → (n < c) ⊎ (c ≤ n) → (suc n < suc c) ⊎ (suc c ≤ suc n)
below_step n c (inl h) = inl (omega arith)
below_step n c (inr h) = inr (omega arith)

below_or : (n c : ℕ) → (n < c) ⊎ (c ≤ n)
below_or zero zero = inr (omega arith)
below_or zero (suc c) = inl (omega arith)
below_or (suc n) zero = inr (omega arith)
below_or (suc n) (suc c) = below_step n c (below_or n c)

zero_min : (c : ℕ) → min 0 c ≡ 0
zero_min c = grind arith

zero_times : (d k : ℕ) → 0 * d ≡ 0 * k
zero_times d k = omega arith

no_factor-zero : (k d c : ℕ) → min (min 0 c * d) c ≡ min (0 * k) c
no_factor-zero k d c = ap (λ x. min (x * d) c) (zero_min c) ∙ ap (λ x. min x c) (zero_times d k)

no_factor : (r k d c : ℕ) → r ≡ 0 → min (min r c * d) c ≡ min (r * k) c
no_factor r k d c e = ap (λ x. min (min x c * d) c) e ∙ no_factor-zero k d c ∙ sym (ap (λ x. min (x * k) c) e)

some_factor : (r k c : ℕ) → 0 < c → c ≤ k → (r ≡ 0) ⊎ (0 < r) → min (min r c * min k c) c ≡ min (r * k) c
some_factor r k c p h (inl e) = no_factor r k (min k c) c e
some_factor r k c p h (inr q) =
    ap (λ x. min (min r c * x) c) (large_min k c h)
    ∙ large_min (min r c * c) c (large_right (min r c) c c (omega arith) (min_positive r c q p))
    ∙ sym (large_min (r * k) c (large_right r k c h q))

product_cases : (r k c : ℕ) → 0 < k → 0 < c → (r < c) ⊎ (c ≤ r) → (k < c) ⊎ (c ≤ k) → min (min r c * min k c) c ≡ min (r * k) c
product_cases r k c h p (inl a) (inl b) = ap (λ x. min (x * min k c) c) (small_min r c a) ∙ ap (λ x. min (r * x) c) (small_min k c b)
product_cases r k c h p (inl a) (inr b) = some_factor r k c p b (zero_or r)
product_cases r k c h p (inr a) b =
    ap (λ x. min (x * min k c) c) (large_min r c a)
    ∙ large_min (c * min k c) c (large_left c (min k c) c (omega arith) (min_positive k c h p))
    ∙ sym (large_min (r * k) c (large_left r k c a h))

capped_product : (r k m d most : ℕ) → m ≡ min r (2 ^ 127) → d ≡ min k (2 ^ 127) → 0 < k → most ≡ min (m * d) (2 ^ 127) → most ≡ min (r * k) (2 ^ 127)
capped_product r k m d most a b h e =
    e ∙ ap (λ x. min (x * d) (2 ^ 127)) a ∙ ap (λ x. min (min r (2 ^ 127) * x) (2 ^ 127)) b
    ∙ product_cases r k (2 ^ 127) h (omega arith) (below_or r (2 ^ 127)) (below_or k (2 ^ 127))

under : (p most n : ℕ) → most ≡ min p (2 ^ 127) → n ≤ most → n ≤ p
under p most n e h = grind arith

strictly_under : (p most n : ℕ) → most ≡ min p (2 ^ 127) → n < most → n < p
strictly_under p most n e h = grind arith

exactly : (p most n : ℕ) → most ≡ min p (2 ^ 127) → n < 2 ^ 127 → n ≡ most → n ≡ p
exactly p most n e h f = grind arith

texts-length : (ts : List Token) → length (texts ts) ≡ length ts
texts-length [] = refl
texts-length (x ∷ ts) = ap suc (texts-length ts)

-- the answers of all tokens
pub whole_body : (ts rest : List Token) (m d most : ℕ) (t : NumberType) (s : Sizes) → AreRead ts m d t rest s → t ≢ Real → most ≡ min (m * d) (2 ^ 127) → length rest < 2 ^ 127 → AreNumbers t rest most → IsBodyRead ts d rest
whole_body ts rest m d most t s a e f small (all, count) =
    let cap = capped_product s.rows s.columns m d most a.rows a.columns a.sizes.positive f in
    record {
      s = s;
      body = record {
        m = a.first.1;
        d = a.second.1;
        t = a.third.1;
        tokens = ap (λ (l : List Token). texts l) a.cut;
        sizes = a.sizes;
        forms = subst (λ (k : NumberType). list_all (is_number k) (texts rest) ≡ true) a.number_type all;
        count = texts-length rest ∙ exactly (s.rows * s.columns) most (length rest) cap small count;
      };
      number_type = λ r. e (a.number_type ∙ r);
      columns = a.columns;
    }

cannot_go_on : (m d t : List ℕ) (s : Sizes) (before : List Token) (x : Token) (most : ℕ) → AreSizes m d t s → most ≡ min (s.rows * s.columns) (2 ^ 127) → length before < 2 ^ 127 → (is_number s.number_type x.1 ≡ false) ⊎ (length before ≡ most) → ¬ (CanBody (m ∷ d ∷ t ∷ (texts before ++ x.1 ∷ [])))
cannot_go_on m d t s before x most sizes cap small (inl e) = no_number m d t s (texts before) x.1 sizes e
cannot_go_on m d t s before x most sizes cap small (inr e) = no_room m d t s (texts before) x.1 sizes (texts-length before ∙ exactly (s.rows * s.columns) most (length before) cap small e)

-- of the type that the sizes name
wrong_of_type : (ts rest : List Token) (m d most end at : ℕ) (s : Sizes) → AreRead ts m d s.number_type rest s → s.number_type ≢ Real → most ≡ min (m * d) (2 ^ 127) → ArentNumbers s.number_type rest most end at → HasType ts s.number_type × HasNoBody ts end at
wrong_of_type ts rest m d most end at s a e f (inl w) =
    let cap = capped_product s.rows s.columns m d most a.rows a.columns a.sizes.positive f in (
      record { s = s; first = a.first; second = a.second; third = a.third; rest = rest; cut = a.cut; sizes = a.sizes; number_type = refl },
      inl (
        a.first ∷ a.second ∷ a.third ∷ w.before,
        record {
          token = w.token;
          first = record {
            behind = w.behind;
            cut = a.cut ∙ ap (λ (l : List Token). a.first ∷ a.second ∷ a.third ∷ l) w.cut;
            right = can_go_on a.first.1 a.second.1 a.third.1 s (texts w.before) a.sizes w.right (subst (λ n. n ≤ s.rows * s.columns) (sym (texts-length w.before)) (under (s.rows * s.columns) most (length w.before) cap w.room));
            wrong = subst (λ (l : List (List ℕ)). ¬ (CanBody (a.first.1 ∷ a.second.1 ∷ a.third.1 ∷ l))) (sym (texts-push w.before w.token)) (cannot_go_on a.first.1 a.second.1 a.third.1 s w.before w.token most a.sizes cap w.small w.wrong);
          };
          line = w.line;
        },
      ),
    )
wrong_of_type ts rest m d most end at s a e f (inr (all, few, is)) =
    let cap = capped_product s.rows s.columns m d most a.rows a.columns a.sizes.positive f in
    let short : length (texts rest) < s.rows * s.columns = subst (λ n. n < s.rows * s.columns) (sym (texts-length rest)) (strictly_under (s.rows * s.columns) most (length rest) cap few) in
    let cut : texts ts ≡ (a.first.1 ∷ a.second.1 ∷ a.third.1 ∷ texts rest) = ap (λ (l : List Token). texts l) a.cut in (
      record { s = s; first = a.first; second = a.second; third = a.third; rest = rest; cut = a.cut; sizes = a.sizes; number_type = refl },
      inr (
        subst (λ (l : List (List ℕ)). CanBody l) (sym cut) (can_go_on a.first.1 a.second.1 a.third.1 s (texts rest) a.sizes all (omega (arith, short))),
        subst (λ (l : List (List ℕ)). (z : Sizes) (numbers : List (List ℕ)) → ¬ (IsBody l z numbers)) (sym cut) (too_few a.first.1 a.second.1 a.third.1 s (texts rest) a.sizes short),
        is,
      ),
    )

pub wrong_body : (ts rest : List Token) (m d most end at : ℕ) (t : NumberType) (s : Sizes) → AreRead ts m d t rest s → t ≢ Real → most ≡ min (m * d) (2 ^ 127) → ArentNumbers t rest most end at → (u : NumberType) × HasType ts u × (u ≢ Real) × HasNoBody ts end at
wrong_body ts rest m d most end at t s a e f w =
    let real : s.number_type ≢ Real = λ r. e (a.number_type ∙ r) in
    let found = wrong_of_type ts rest m d most end at s (subst (λ (k : NumberType). AreRead ts m d k rest s) a.number_type a) real f (subst (λ (k : NumberType). ArentNumbers k rest most end at) a.number_type w) in
    (s.number_type, found.0, real, found.1)

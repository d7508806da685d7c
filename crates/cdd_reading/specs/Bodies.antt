-- What stands behind `begin`.
use Rattle.std.specs.Prelude.{◌≡◌, ◌≢◌, Bool, ℕ, ◌*◌, ◌^◌, ◌<◌, ◌≤◌, ◌⊎◌, min, List, ◌∷◌, ◌++◌, length, true, false, codes}
use Rattle.std.specs.List.{list_all}
use Rattle.cdd_reading.specs.Tokens.{Token, texts, is_integer}
use Rattle.plain_text.specs.Digits.{is_nat, number}
use Rattle.cdd_reading.specs.FirstWrong.{IsFirstWrong}
use Rattle.cdd_reading.specs.Fractions.{is_fraction}
use Rattle.cdd_reading.specs.declared.body.BodyErr.{BodyErr}
use Rattle.cdd_reading.specs.declared.body.BodyErr.TheVariants.{Wrong, OtherType}
use Rattle.cdd_reading.specs.declared.format.NumberType.{NumberType}
use Rattle.cdd_reading.specs.declared.format.NumberType.TheVariants.{Integer, Rational, Real}

abbrev pub type_word : NumberType → List ℕ
type_word Integer = codes "integer"
type_word Rational = codes "rational"
type_word Real = codes "real"

-- a number of this type: an integer, or an integer, `/` and digits; those of the type `real` aren't
-- looked at
abbrev pub is_number : NumberType → List ℕ → Bool
is_number Integer t = is_integer t
is_number Rational t = is_fraction t
is_number Real t = true

-- the sizes of a file, and its number type
pub record Sizes : Type 0 where
  pub rows : ℕ
  pub columns : ℕ
  pub number_type : NumberType

-- these three tokens give the sizes
pub record AreSizes (m d t : List ℕ) (s : Sizes) : Type 0 where
  pub rows_form : is_nat m ≡ true
  pub rows : s.rows ≡ number m
  pub columns_form : is_nat d ≡ true
  pub columns : s.columns ≡ number d
  pub positive : 0 < s.columns
  pub number_type : t ≡ type_word s.number_type

-- the tokens are the sizes, and then as many numbers of the type as they say
pub record IsBody (ts : List (List ℕ)) (s : Sizes) (numbers : List (List ℕ)) : Type 0 where
  pub m : List ℕ
  pub d : List ℕ
  pub t : List ℕ
  pub tokens : ts ≡ m ∷ d ∷ t ∷ numbers
  pub sizes : AreSizes m d t s
  pub forms : list_all (is_number s.number_type) numbers ≡ true
  pub count : length numbers ≡ s.rows * s.columns

-- some body begins so
abbrev pub CanBody : List (List ℕ) → Type 0
CanBody ts =
    (more : List (List ℕ)) × (s : Sizes) × (numbers : List (List ℕ)) × IsBody (ts ++ more) s numbers

-- the first token that can't stand where it is stands in this line
pub record IsWrongToken (ts : List Token) (before : List Token) (at : ℕ) : Type 0 where
  pub token : Token
  pub first : IsFirstWrong (λ begun. CanBody (texts begun)) ts before token
  pub line : at ≡ token.0

-- the first three tokens aren't sizes: the line of the first token that can't stand, or the line of
-- `end` where one is missing
abbrev pub HasNoSizes : List Token → ℕ → ℕ → Type 0
HasNoSizes ts end at =
    ((before : List Token) × (length before < 3) × IsWrongToken ts before at)
    ⊎ (CanBody (texts ts) × (length ts < 3) × (at ≡ end))

-- likewise of all tokens
abbrev pub HasNoBody : List Token → ℕ → ℕ → Type 0
HasNoBody ts end at =
    ((before : List Token) × IsWrongToken ts before at)
    ⊎ (CanBody (texts ts)
    × ((s : Sizes) (numbers : List (List ℕ)) → ¬ (IsBody (texts ts) s numbers)) × (at ≡ end))

-- the sizes are right, and this is the number type
pub record HasType (ts : List Token) (t : NumberType) : Type 0 where
  pub s : Sizes
  pub first : Token
  pub second : Token
  pub third : Token
  pub rest : List Token
  pub cut : ts ≡ first ∷ second ∷ third ∷ rest
  pub sizes : AreSizes first.1 second.1 third.1 s
  pub number_type : s.number_type ≡ t

-- the sizes were read: m and d, for which 2^127 stands where they are greater, and what is left
pub record AreRead (ts : List Token) (m d : ℕ) (t : NumberType) (rest : List Token) (s : Sizes)
    : Type 0 where
  pub first : Token
  pub second : Token
  pub third : Token
  pub cut : ts ≡ first ∷ second ∷ third ∷ rest
  pub sizes : AreSizes first.1 second.1 third.1 s
  pub rows : m ≡ min s.rows (2 ^ 127)
  pub columns : d ≡ min s.columns (2 ^ 127)
  pub number_type : t ≡ s.number_type

-- so many tokens, all of them numbers of the type
abbrev pub AreNumbers : NumberType → List Token → ℕ → Type 0
AreNumbers t ts most = (list_all (is_number t) (texts ts) ≡ true) × (length ts ≡ most)

-- the first token that is no number or one too many, or too few tokens
pub record IsOneWrong (t : NumberType) (ts : List Token) (most at : ℕ) : Type 0 where
  pub before : List Token
  pub token : Token
  pub behind : List Token
  pub cut : ts ≡ before ++ token ∷ behind
  pub right : list_all (is_number t) (texts before) ≡ true
  pub room : length before ≤ most
  pub small : length before < 2 ^ 127
  pub wrong : (is_number t token.1 ≡ false) ⊎ (length before ≡ most)
  pub line : at ≡ token.0

abbrev pub ArentNumbers : NumberType → List Token → ℕ → ℕ → ℕ → Type 0
ArentNumbers t ts most end at =
    IsOneWrong t ts most at
    ⊎ (list_all (is_number t) (texts ts) ≡ true) × (length ts < most) × (at ≡ end)

-- why the tokens are no body of integers or fractions, in the order of the tests
abbrev pub IsBodyFault : List Token → ℕ → BodyErr → Type 0
IsBodyFault ts end (Wrong at) =
    HasNoSizes ts end at ⊎ ((t : NumberType) × HasType ts t × (t ≢ Real) × HasNoBody ts end at)
IsBodyFault ts end OtherType = HasType ts Real

-- the body that was read: d, for which 2^127 stands where it is greater, and the tokens behind the
-- sizes
pub record IsBodyRead (ts : List Token) (d : ℕ) (numbers : List Token) : Type 0 where
  pub s : Sizes
  pub body : IsBody (texts ts) s (texts numbers)
  pub number_type : s.number_type ≢ Real
  pub columns : d ≡ min s.columns (2 ^ 127)

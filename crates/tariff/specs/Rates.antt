-- The Basic Service rates of the classes.
use Rattle.std.specs.Prelude.{◌≡◌, ℕ, None, Option, Result, slice_index_or, slice_set}
use Rattle.measures.specs.Answers.{unless, Answered}
use Rattle.measures.specs.Measures.{is_class, is_rate}
use Rattle.measures.specs.declared.measure.Rate.{Rate}
use Rattle.measures.specs.declared.refusal.Refusal.{Refusal}
use Rattle.measures.specs.declared.refusal.Refusal.TheVariants.{Unlisted, OutOfRange}
use Rattle.tariff.specs.declared.rates.BasicRates.{BasicRates}

-- the rate of a class that nobody has set
abbrev pub no_rate : Rate
no_rate = record { 0 = 0 }

-- the rate of a class
abbrev pub rate_of : BasicRates → ℕ → ℕ
rate_of b class = (slice_index_or b.rates class no_rate).0

-- the first reason against setting a rate: no such class, or a rate out of range
abbrev pub against_setting : ℕ → ℕ → Option Refusal
against_setting class rate = unless (is_class class) Unlisted (unless (is_rate rate) OutOfRange None)

-- what setting a rate answers and leaves: that class has the rate, and every other class its own
abbrev pub Sets : {A : Type 0} → BasicRates → ℕ → ℕ → Result A Refusal → BasicRates → Type 0
Sets b class rate r b' = Answered (against_setting class rate) r b b' (λ _. b'.rates ≡ slice_set b.rates class (record { 0 = rate }))

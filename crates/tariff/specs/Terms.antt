-- Which numbers enrol a unit, and on which terms.
use Rattle.std.specs.Prelude.{ℕ, Bool, cond, ◌&&◌, Some, None, Option, option_and_then, ◌==◌}
use Rattle.std.specs.Int.{is_in_range}
use Rattle.measures.specs.Measures.{is_class, is_day, is_rate}
use Rattle.tariff.specs.declared.terms.Energy.{Energy}
use Rattle.tariff.specs.declared.terms.Energy.TheVariants.{NetMetered, Purchased, OnBillCredit}
use Rattle.tariff.specs.declared.terms.Enrolment.{Enrolment}
use Rattle.tariff.specs.declared.terms.Particulars.{Particulars}
use Rattle.tariff.specs.declared.terms.Place.{Place}
use Rattle.tariff.specs.declared.terms.Place.TheVariants.{Standalone, BehindTheMeter}
use Rattle.tariff.specs.declared.terms.Terms.{Terms}

-- the place of a number
abbrev pub place_in : ℕ → Option Place
place_in n = cond (n == 1) (Some Standalone) (cond (n == 2) (Some BehindTheMeter) None)

-- the compensation of a number
abbrev pub energy_in : ℕ → Option Energy
energy_in n = cond (n == 1) (Some NetMetered) (cond (n == 2) (Some Purchased) (cond (n == 3) (Some OnBillCredit) None))

-- whether the five rates of an enrolment are in range
abbrev pub rates_in_range : Particulars → Bool
rates_in_range p = is_rate p.base.0 && (is_rate p.adder.0 && (is_rate p.subtractor.0 && (is_rate p.charges.0 && is_rate p.average.0)))

-- the most watts of a unit
abbrev pub most_watts : ℕ
most_watts = 5000000

-- whether class, watts, qualifying day and rates of an enrolment are in range
abbrev pub in_ranges : Particulars → Bool
in_ranges p = is_class p.class.0 && (is_in_range 1 most_watts p.watts && (is_day p.qualified.0 && rates_in_range p))

-- the terms that an enrolment gives, at its place and with its compensation
abbrev pub terms_at : Enrolment → Place → Energy → Terms
terms_at e place energy = record { place = place; energy = energy; particulars = e.particulars }

-- the terms that an enrolment gives, if all its numbers are in range
abbrev pub terms_in : Enrolment → Option Terms
terms_in e = cond (in_ranges e.particulars) (option_and_then (λ place. option_and_then (λ energy. Some (terms_at e place energy)) (energy_in e.energy)) (place_in e.place)) None

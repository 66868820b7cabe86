-- The laws that crates above cite. Each is proved from the definitions beside this file, so none has to be believed.
--     simulated            a forward simulation with progress gives observational equivalence
--     locked, breaks       what a machine in lockstep shows at each pair of related states;  where the first breaks at once
--     went, said, ended    one step
--     stays, comes         no step;  one step or more is a stretch
--     comes_on, leads_on, leads_after, ends_on, follows_on      stretches put together
--     equivalent_refl, equivalent_trans      each machine is equivalent to itself;  equivalences compose
--     equivalent_along_image, equivalent_pointwise      machines that step alike are equivalent
--     equivalent_observed  machines of which the same is observed are
--     observed-image       what is observed of a machine whose steps are another's along a function of its states
--     equivalent_relabel, observed-relabel      the same of machines whose events are looked at through a function
--     broken_back          the second is broken only where the first is
--     equivalent_sym       where the first is never broken, the equivalence holds the other way round too
--     grows, keeps         more steps show more, and nothing else once the run is over;  what was said stays said
--     prefix_refl, prefix_trans, prefix-append, prefixes_nested      beginnings of lists
pub mod Prefix
pub mod Growth
pub mod Simulation
pub mod Stretches
pub mod Equivalence
pub mod Relabelling
pub use Rattle.event_machine.specs.Laws.Prefix.{prefix_refl, prefix_trans, prefix-append, prefixes_nested}
pub use Rattle.event_machine.specs.Laws.Growth.{grows, keeps}
pub use Rattle.event_machine.specs.Laws.Simulation.{simulated, simulated_pairs}
pub use Rattle.event_machine.specs.Laws.Stretches.{went, said, ended, stays, comes, comes_on, leads_on, leads_after, ends_on, follows_on, locked, breaks}
pub use Rattle.event_machine.specs.Laws.Equivalence.{equivalent_refl, equivalent_trans, equivalent_along_image, equivalent_pointwise, equivalent_observed, equivalent_sym, observed-image, broken_back}
pub use Rattle.event_machine.specs.Laws.Relabelling.{equivalent_relabel, observed-relabel}

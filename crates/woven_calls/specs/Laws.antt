-- The laws that crates above cite. Each is proved from the definitions, so none has to be believed.
--     woven_behaves        woven classes and the aspect's class run as the join point machine does
--     pool_grows-class     a class stays well-formed with a longer pool, and with methods that are sound under it
--     no_aspect_behaves    without aspects the join point machine is the class machine
--     carried              a code that carries out the advice of another runs as the join point machine does on that one
pub mod NoAspects
pub mod Pools
pub mod Tables
pub mod Turns
pub mod Carries
pub mod Steps
pub mod Grows
pub mod AspectClass
pub mod Forms
pub mod StraightCode
pub mod Places
pub mod Lookups
pub mod Methods
pub mod Starts
pub mod Weaves
pub use Rattle.woven_calls.specs.Laws.Weaves.{woven_behaves}
pub use Rattle.woven_calls.specs.Laws.NoAspects.{no_aspect_behaves}
pub use Rattle.woven_calls.specs.Laws.Steps.{carried}
pub use Rattle.woven_calls.specs.Laws.Grows.{pool_grows-class}

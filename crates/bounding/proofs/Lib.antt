pub mod StandingTable
